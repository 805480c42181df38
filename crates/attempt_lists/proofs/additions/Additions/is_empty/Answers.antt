use Rattle.std.proofs.Common.{◌≡◌, length, ap, ◌∙◌, refl, arith}
use Rattle.attempt_lists.proofs.PartLists.{nothing_waits}
use Rattle.attempt_lists.proofs.additions.Additions.is_empty.Goals as goal

-- every part that has an entry was looked at
pub returns : goal.returns
returns c =
    let all : length c.deref-p-items.result.now ≡ length c.args.self.now = ap length (c.deref-p-items.ensures.value ∙ c.self.view_is) in
    (λ true. nothing_waits _ (λ k lt. c.loop-p.invariant k (omega arith)), λ none. refl)

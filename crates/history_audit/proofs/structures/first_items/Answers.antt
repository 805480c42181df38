use Rattle.std.proofs.Common.{◌≡◌, ℕ, cond, Some, None, arith, subst}
use Rattle.std.specs.Prelude.{nat_eq, nat_lt}
use Rattle.std.specs.HashMap.{get}
use Rattle.history_audit.proofs.Openings.{counted_items}
use Rattle.history_audit.proofs.structures.first_items.Goals as goal

pub returns : goal.returns
returns c =
    let at : c.loop-item.item ≡ c.args.given = omega arith in
    let all : (n : ℕ) → Type 0 = λ n. (x : ℕ) → get nat_eq c.loop-item.counts x ≡ cond (nat_lt x n) (Some 1) None in
    counted_items (get nat_eq c.loop-item.counts) c.args.given (subst all at c.loop-item.invariant)

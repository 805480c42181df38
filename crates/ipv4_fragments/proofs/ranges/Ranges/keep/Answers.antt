use Rattle.std.proofs.Common.{◌≡◌, ℕ, Bool, true, false, refl, arith}
use Rattle.std.specs.Prelude.{nat_lt, ◌==◌}
use Rattle.std.specs.Ordering.{nat_cmp}
use Rattle.std.specs.BTreeMap.{is_at}
use Rattle.std.proofs.lemmas.Bool.Decides.{nat_tests}
use Rattle.ipv4_fragments.proofs.Clashes.{keeps_other, keeps_last, no_overlap, no_last}
use Rattle.ipv4_fragments.proofs.ranges.Ranges.keep.Goals as goal

elsewhere : (a q : ℕ) → (q ≡ a → ⊥) → is_at (nat_cmp a) q ≡ false
elsewhere a q other = by_case (nat_lt a q) (a == q) refl refl
  where
    by_case : (b d : Bool) → nat_lt a q ≡ b → (a == q) ≡ d → is_at (nat_cmp a) q ≡ false
    by_case true d before there = rw before
    by_case false true before there = absurd (other (grind (arith, nat_tests)))
    by_case false false before there = rw (before, there)

pub returns-then-piece : goal.returns-then-piece
returns-then-piece c = λ kept agrees stands.
    let u = c.in_ok-insert.ensures.updates in
    let old = c.args.self.now in
    let f = c.args.piece.now in
    keeps_last old _ kept agrees f c.requires.some (no_overlap old kept agrees f stands) u.1 (λ q other. u.2 q (elsewhere f.start q other)) c.max-self.ensures c.if-piece.true (no_last old kept agrees f stands c.if-piece.true) refl

pub returns-else-piece : goal.returns-else-piece
returns-else-piece c = λ kept agrees stands.
    let u = c.in_ok-insert.ensures.updates in
    let old = c.args.self.now in
    let f = c.args.piece.now in
    keeps_other old _ kept agrees f c.requires.some (no_overlap old kept agrees f stands) u.1 (λ q other. u.2 q (elsewhere f.start q other)) c.max-self.ensures c.if-piece.false refl

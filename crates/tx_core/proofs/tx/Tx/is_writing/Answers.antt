use Rattle.std.proofs.Common.{◌≡◌, true, false, length, inl, inr, refl, ap, sym, ◌∙◌, arith}
use Rattle.std.proofs.lemmas.Bool.{cases_lt}
use Rattle.attempt_lists.specs.Levels.{merged}
use Rattle.attempt_lists.specs.Laid.{length-laid_over}
use Rattle.tx_core.specs.Tx.{Attempt}
use Rattle.tx_core.proofs.tx.Tx.is_writing.Goals as goal

never : {P : Type 0} → true ≡ false → P
never e = cc

pub returns-then-is_empty : goal.returns-then-is_empty
returns-then-is_empty g c = (λ e. never (sym e), λ some. absurd (omega (arith, some, ap (λ (a : Attempt _ _). length a.writes) c.self.view_is, c.is_empty.ensures.0 c.if-is_empty.true, (length-laid_over c.self.inside.writes.parent c.self.inside.writes.child c.ascending_law.ensures.parent).1)))

pub returns : goal.returns
returns g c = elim (cases_lt 0 (length (merged c.self.inside.writes))) [
  | inl some ↦ (λ e. omega (arith, some, ap (λ (a : Attempt _ _). length a.writes) c.self.view_is), λ p. refl)
  | inr none ↦ never (sym (c.is_empty.ensures.1 (c.empty_law.ensures (omega (arith, none)))) ∙ c.if-is_empty.false)
]

use Rattle.std.proofs.Common.{◌<◌, List, ℕ, length, subst}
use Rattle.attempt_lists.specs.Cells.{cell_at}
use Rattle.tx_core.proofs.Looks.{observes_of, stands_grows}
use Rattle.tx_core.proofs.tx.Tx.abort_noted.Goals as goal

pub returns-clause-vouched : goal.returns-clause-vouched
returns-clause-vouched g c = rw (← c.self.view_is, c.saw.ensures) (λ i lt. (
  subst (λ (xs : List ℕ). cell_at c.self.inside.reads.observations i < length xs) c.self.invariant.0.of.2 (c.self.invariant.0.observed i lt).there,
  λ low. observes_of _ _ _ _ _ (stands_grows _ _ _ _ _ _ c.give_back_all.ensures.gives.grows ((c.self.invariant.0.observed i lt).stands low)),
))

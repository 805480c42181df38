use Rattle.std.proofs.Common.{◌<◌, List, ℕ, length, subst}
use Rattle.attempt_lists.specs.Cells.{cell_at}
use Rattle.tx_core.proofs.Looks.{observes_of}
use Rattle.tx_core.proofs.tx.Tx.vouched_law.Goals as goal

pub returns-clause-stands : goal.returns-clause-stands
returns-clause-stands g c = rw (← c.self.view_is) (λ i lt low. observes_of _ _ _ _ _ ((c.self.invariant.0.observed i lt).stands low))

pub returns-clause-there : goal.returns-clause-there
returns-clause-there g c = rw (← c.self.view_is) (λ i lt. subst (λ (xs : List ℕ). cell_at c.self.inside.reads.observations i < length xs) c.self.invariant.0.of.2 (c.self.invariant.0.observed i lt).there)

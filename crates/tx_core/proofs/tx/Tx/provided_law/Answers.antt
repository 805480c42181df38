use Rattle.tx_core.proofs.Providing.{two_each}
use Rattle.tx_core.proofs.tx.Tx.provided_law.Goals as goal

pub returns-clause-each : goal.returns-clause-each
returns-clause-each g c = rw (← c.self.view_is) (λ before. two_each _ _ (c.self.invariant.1.twice before))

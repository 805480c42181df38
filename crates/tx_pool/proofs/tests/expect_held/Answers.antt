use Rattle.std.proofs.Common.{ap, subst, arith}
use Rattle.cell_table.specs.Pass.{IsPassOf}
use Rattle.tx_core.specs.Tx.{Attempt}
use Rattle.tx_pool.proofs.tests.expect_held.Goals as goal

pub returns-clause-of : goal.returns-clause-of
returns-clause-of g c = subst (λ t. IsPassOf t c.abort.result) (ap (λ (a : Attempt _ _). a.table) c.in-Err.ensures.stopped.is) c.abort.ensures.of

pub returns-clause-draws : goal.returns-clause-draws
returns-clause-draws g c = omega (arith, c.abort.ensures.pass.1, c.in-Err.ensures.stopped.pass.draws, c.requires.draws)

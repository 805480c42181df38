use Rattle.cell_table.specs.Steps.{IsIdle}
use Rattle.tx_store.specs.Stores.{IsPassOfStore}
use Rattle.inspect_workers.proofs.tests.interfering.until_empty.Given as goal

abbrev pub invariant-loop : goal.invariant-loop
invariant-loop g l = IsPassOfStore l.store l.pass × IsIdle l.pass.pass.view

use Rattle.std.proofs.Common.{◌≡◌, IfOk, IfErr}
use Rattle.cell_table.specs.Steps.{IsIdle}
use Rattle.tx_store.specs.Stores.{IsPassOfStore}
use Rattle.tx_store.proofs.tests.seats.alone.Given as goal

abbrev pub invariant-loop-at : goal.invariant-loop-at
invariant-loop-at l = record {
  begun : IfOk l.seat (λ t. t.store ≡ l.store);
  idle : IfErr l.seat (λ p. IsPassOfStore l.store p × IsIdle p.pass.view);
}

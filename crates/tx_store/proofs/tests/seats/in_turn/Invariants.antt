use Rattle.std.proofs.Common.{◌≡◌, IfOk, IfErr}
use Rattle.cell_table.specs.Steps.{IsIdle}
use Rattle.tx_store.specs.Stores.{IsPassOfStore}
use Rattle.tx_store.proofs.tests.seats.in_turn.Given as goal

abbrev pub invariant-loop-at : goal.invariant-loop-at
invariant-loop-at l = record {
  one_begun : IfOk l.one (λ t. t.store ≡ l.store);
  one_idle : IfErr l.one (λ p. IsPassOfStore l.store p × IsIdle p.pass.view);
  other_begun : IfOk l.other (λ t. t.store ≡ l.store);
  other_idle : IfErr l.other (λ p. IsPassOfStore l.store p × IsIdle p.pass.view);
}

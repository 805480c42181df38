use Rattle.std.proofs.Common.{◌≡◌}
use Rattle.tx_core.specs.declared.stop.TxState.TheVariants.{Running}
use Rattle.tx_store.specs.Runs.{IsSameAttempt}
use Rattle.tx_store.proofs.tests.bodies.append_five.Given as goal

abbrev pub invariant-loop-value : goal.invariant-loop-value
invariant-loop-value l = record {
  same : IsSameAttempt l.fn.tx l.tx;
  running : l.tx.attempt.state ≡ Running;
}

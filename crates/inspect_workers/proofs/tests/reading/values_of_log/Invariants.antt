use Rattle.std.proofs.Common.{◌≡◌, false}
use Rattle.inspect_workers.proofs.tests.reading.values_of_log.Given as goal

abbrev pub invariant-loop-at : goal.invariant-loop-at
invariant-loop-at l = (l.tx.store ≡ l.initial.tx.store) × (l.tx.attempt.committing ≡ false)

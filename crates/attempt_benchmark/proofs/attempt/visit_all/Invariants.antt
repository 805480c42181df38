use Rattle.tx_core.specs.Calls.{MayCommit}
use Rattle.attempt_benchmark.specs.Attempt.{GoesOn}
use Rattle.attempt_benchmark.proofs.attempt.visit_all.Given as goal

abbrev pub invariant-loop-i : goal.invariant-loop-i
invariant-loop-i l = MayCommit l.tx × GoesOn l.fn.tx l.tx

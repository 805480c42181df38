use Rattle.std.proofs.Common.{◌≡◌}
use Rattle.serial_terms.specs.Counts.{numbers_from}
use Rattle.run_purpose.proofs.layout.first_batch.Given as goal

abbrev pub invariant-loop-task : goal.invariant-loop-task
invariant-loop-task l = l.items.items ≡ numbers_from 0 l.task

use Rattle.std.proofs.Common.{All}
use Rattle.store_benchmark.specs.Passes.{IsAtWork}
use Rattle.store_benchmark.proofs.measure.jobs.Given as goal

abbrev pub invariant-loop-thread : goal.invariant-loop-thread
invariant-loop-thread l = All (λ j. IsAtWork l.store j.pass) l.jobs.items × IsAtWork l.store l.first

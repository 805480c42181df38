use Rattle.std.proofs.Common.{◌<◌, length}
use Rattle.store_benchmark.specs.Passes.{HasAdded}
use Rattle.store_benchmark.proofs.work.work.Given as goal

abbrev pub invariant-loop-committed : goal.invariant-loop-committed
invariant-loop-committed l = record {
  added : HasAdded l.store l.committed l.fn.pass l.pass;
  some : 0 < length l.pass.pass.books;
}

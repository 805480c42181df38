use Rattle.std.proofs.Common.{◌*◌}
use Rattle.run_bodies.specs.RunStores.{work_of_run}
use Rattle.tx_store.specs.Runs.{IsLeft}
use Rattle.inspect_workers.specs.Works.{HasTurned}
use Rattle.inspect_workers.proofs.works.work_ahead.Given as goal

abbrev pub invariant-loop-turns : goal.invariant-loop-turns
invariant-loop-turns g l = record {
  turned : HasTurned (work_of_run l.run) l.turns l.initial.pass.pass.books l.pass.pass.books;
  left : IsLeft l.store (2 * l.tries * l.turns) l.initial.pass l.pass;
}

use Rattle.run_bodies.specs.RunStores.{work_of_run}
use Rattle.inspect_workers.proofs.Turning.{taken, taken_none}
use Rattle.inspect_workers.proofs.turns.take_turn.Goals as goal

pub returns-then-taken-clause-ends : goal.returns-then-taken-clause-ends
returns-then-taken-clause-ends g c = taken (work_of_run c.args.run.now) c.args.pass.pass c.in-Ok.done.0.pass c.in-Ok.done.1 c.if-taken.true c.in-Ok.ensures.committed

pub returns-else-taken-clause-ends : goal.returns-else-taken-clause-ends
returns-else-taken-clause-ends g c = taken_none (work_of_run c.args.run.now) c.args.pass.pass c.in-Ok.done.0.pass c.in-Ok.done.1 c.if-taken.false c.in-Ok.ensures.committed

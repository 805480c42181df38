use Rattle.run_bodies.specs.Records.{TookTask}
use Rattle.inspect_workers.proofs.Starting.{can_run}
use Rattle.inspect_workers.proofs.Transacting.{adds_one, refused_with}
use Rattle.inspect_workers.proofs.transactions.take_one.Goals as goal

pub atomically-ended-requires-clause-can_run : goal.atomically-ended-requires-clause-can_run
atomically-ended-requires-clause-can_run g c = can_run c.args.run.now c.new-taking.result.run.now c.args.store.now c.requires.store c.new-taking.ensures.run

pub returns-in-Ok-clause-committed : goal.returns-in-Ok-clause-committed
returns-in-Ok-clause-committed g c = adds_one c.args.run.now c.args.store.now c.requires.store _ _ c.args.tries c.args.pass c.in-Ok.done.0 c.in-Ok.done.1 c.in-Ok.ensures.committed

pub returns-in-Err-clause-refused : goal.returns-in-Err-clause-refused
returns-in-Err-clause-refused g c =
    refused_with c.args.run.now c.args.store.now c.requires.store c.args.tries c.args.pass c.in-Err.refused.0 c.tell_full.ensures TookTask c.in-Err.refused.1 c.in-Err.ensures.full c.in-Err.ensures.refused.0 c.in-Err.ensures.refused.1

pub returns-in-Err-clause-sole : goal.returns-in-Err-clause-sole
returns-in-Err-clause-sole g c = c.in-Err.ensures.sole

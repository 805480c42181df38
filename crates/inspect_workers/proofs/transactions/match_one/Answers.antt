use Rattle.run_bodies.specs.Records.{TookItem}
use Rattle.inspect_workers.proofs.Starting.{can_match}
use Rattle.inspect_workers.proofs.Transacting.{adds_one, refused_with}
use Rattle.inspect_workers.proofs.transactions.match_one.Goals as goal

pub atomically-ended-requires-clause-can_run : goal.atomically-ended-requires-clause-can_run
atomically-ended-requires-clause-can_run g c =
    can_match c.args.run.now c.new-matching.result.run.now c.args.store.now c.requires.store c.new-matching.ensures.run c.args.ahead.now c.new-matching.result.ahead.now c.new-matching.result.found_for c.new-matching.result.values.items
    c.requires.ahead c.new-matching.ensures.ahead c.new-matching.ensures.nothing

pub returns-in-Ok-clause-committed : goal.returns-in-Ok-clause-committed
returns-in-Ok-clause-committed g c = adds_one c.args.run.now c.args.store.now c.requires.store _ _ c.args.tries c.args.pass c.in-Ok.done.0 c.in-Ok.done.1 c.in-Ok.ensures.committed

pub returns-clause-refused : goal.returns-clause-refused
returns-clause-refused g c =
    refused_with c.args.run.now c.args.store.now c.requires.store c.args.tries c.args.pass c.in-Err.refused.0 c.tell_full.ensures TookItem c.in-Err.refused.1 c.in-Err.ensures.full c.in-Err.ensures.refused.0 c.in-Err.ensures.refused.1

pub returns-clause-sole : goal.returns-clause-sole
returns-clause-sole g c = c.in-Err.ensures.sole

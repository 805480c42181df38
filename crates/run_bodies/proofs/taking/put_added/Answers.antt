use Rattle.run_bodies.proofs.ChildCalls.{does_then, stops_after, acts_then}
use Rattle.run_bodies.proofs.taking.put_added.Goals as goal
use Rattle.run_bodies.specs.Records.{ready_of}

pub returns-in-Err-put_link : goal.returns-in-Err-put_link
returns-in-Err-put_link g c = stops_after c.args.tx.now c.put.new.tx c.put_link.new.tx _ c.in-Err-put_link.stop c.in-Ok.ensures c.in-Err-put_link.ensures

pub returns : goal.returns
returns g c =
    acts_then c.args.tx.now c.put_link.new.tx c.put_ready.new.tx _ (λ _. ready_of c.args.group c.args.adding.ready) c.put_ready.result
    (does_then c.args.tx.now c.put.new.tx c.put_link.new.tx _ _ c.in-Ok.ensures c.in-Ok-put_link.ensures) c.put_ready.ensures

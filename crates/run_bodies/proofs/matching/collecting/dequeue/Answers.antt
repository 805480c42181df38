use Rattle.std.specs.Prelude.{Ok, Err}
use Rattle.serial_terms.specs.declared.call.Call.TheVariants.{Dequeue}
use Rattle.serial_terms.specs.Serial.{found}
use Rattle.store_layout.specs.Shapes.{the_queue}
use Rattle.run_bodies.proofs.Outside.{may_call, acts_outside}
use Rattle.run_bodies.proofs.matching.collecting.dequeue.Goals as goal

pub queue_dequeue-requires-clause-callable : goal.queue_dequeue-requires-clause-callable
queue_dequeue-requires-clause-callable c = may_call c.args.tx.now c.requires.running

pub returns-in-Ok : goal.returns-in-Ok
returns-in-Ok c = acts_outside _ (the_queue 0) 6 c.args.tx.now c.queue_dequeue.new.self (Dequeue 0) found (Ok c.in-Ok.value) c.requires.running c.in-Ok.ensures

pub returns-in-Err : goal.returns-in-Err
returns-in-Err c = acts_outside _ (the_queue 0) 6 c.args.tx.now c.queue_dequeue.new.self (Dequeue 0) found (Err c.in-Err.stop) c.requires.running c.in-Err.ensures

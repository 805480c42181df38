use Rattle.serial_terms.specs.declared.call.Call.TheVariants.{Dequeue}
use Rattle.serial_terms.specs.Serial.{found}
use Rattle.store_layout.specs.Shapes.{the_queue}
use Rattle.store_benchmark.proofs.Asking.{called}
use Rattle.store_benchmark.proofs.calls.dequeue.Goals as goal

pub returns-in-Ok : goal.returns-in-Ok
returns-in-Ok c = called c.args.tx.now c.queue_dequeue.new.self c.requires.ready (Dequeue 0) (found c.in-Ok.value) (the_queue 0) 6 c.in-Ok.ensures

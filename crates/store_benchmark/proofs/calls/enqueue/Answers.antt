use Rattle.serial_terms.specs.declared.call.Call.TheVariants.{Enqueue}
use Rattle.serial_terms.specs.declared.call.Reply.TheVariants.{Nothing}
use Rattle.store_layout.specs.Shapes.{the_queue}
use Rattle.store_benchmark.proofs.Asking.{called}
use Rattle.store_benchmark.proofs.calls.enqueue.Goals as goal

pub returns-in-Ok : goal.returns-in-Ok
returns-in-Ok c = called c.args.tx.now c.queue_enqueue.new.self c.requires.ready (Enqueue 0 c.args.value) Nothing (the_queue 0) 0 c.in-Ok.ensures

use Rattle.serial_terms.specs.declared.call.Call.TheVariants.{Append}
use Rattle.serial_terms.specs.declared.call.Reply.TheVariants.{Nothing}
use Rattle.store_layout.specs.Shapes.{the_log}
use Rattle.store_benchmark.proofs.Asking.{called}
use Rattle.store_benchmark.proofs.calls.append.Goals as goal

pub returns-in-Ok : goal.returns-in-Ok
returns-in-Ok c = called c.args.tx.now c.log_append.new.self c.requires.ready (Append 0 c.args.value) Nothing (the_log 0) 0 c.in-Ok.ensures

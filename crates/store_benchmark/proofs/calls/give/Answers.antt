use Rattle.serial_terms.specs.declared.call.Call.TheVariants.{Give}
use Rattle.serial_terms.specs.declared.call.Reply.TheVariants.{Flag}
use Rattle.store_layout.specs.Shapes.{the_pool}
use Rattle.store_benchmark.proofs.Asking.{called}
use Rattle.store_benchmark.proofs.calls.give.Goals as goal

pub returns-in-Ok : goal.returns-in-Ok
returns-in-Ok c = called c.args.tx.now c.pool_put.new.self c.requires.ready (Give 0 c.args.item) (Flag c.in-Ok.done) (the_pool 0) _ c.in-Ok.ensures

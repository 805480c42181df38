use Rattle.serial_terms.specs.declared.call.Call.TheVariants.{Take}
use Rattle.serial_terms.specs.Serial.{found}
use Rattle.store_layout.specs.Shapes.{the_pool}
use Rattle.store_benchmark.proofs.Asking.{called}
use Rattle.store_benchmark.proofs.calls.take.Goals as goal

pub returns-in-Ok : goal.returns-in-Ok
returns-in-Ok c = called c.args.tx.now c.pool_take.new.self c.requires.ready (Take 0) (found c.in-Ok.item) (the_pool 0) _ c.in-Ok.ensures

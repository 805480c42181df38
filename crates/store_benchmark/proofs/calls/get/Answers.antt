use Rattle.serial_terms.specs.declared.call.Call.TheVariants.{MapGet}
use Rattle.serial_terms.specs.Serial.{found}
use Rattle.store_benchmark.proofs.Asking.{keyed, key_stopped}
use Rattle.store_benchmark.proofs.calls.get.Goals as goal

pub returns-in-Ok : goal.returns-in-Ok
returns-in-Ok c = keyed c.args.tx.now c.map_get.new.self c.requires.ready (MapGet 0 c.args.key) _ (found) 0 c.args.key 3 c.in-Ok.there c.in-Ok.ensures

pub returns-in-Err : goal.returns-in-Err
returns-in-Err c = key_stopped c.args.tx.now c.map_get.new.self c.requires.ready (MapGet 0 c.args.key) _ _ 0 c.args.key 3 c.in-Err.stop c.of_map.result c.of_map.ensures c.in-Err.ensures

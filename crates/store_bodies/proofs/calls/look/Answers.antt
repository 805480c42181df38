use Rattle.serial_terms.specs.declared.call.Call.TheVariants.{MapGet}
use Rattle.serial_terms.specs.Serial.{found}
use Rattle.store_bodies.proofs.Calling.{keyed, key_stopped}
use Rattle.store_bodies.proofs.calls.look.Goals as goal

pub returns-in-Ok : goal.returns-in-Ok
returns-in-Ok c = keyed c.args.tx.now c.map_get.new.self c.requires.ready (MapGet c.args.map c.args.account) found c.args.map c.args.account 3 c.in-Ok.there c.in-Ok.ensures

pub returns-in-Err : goal.returns-in-Err
returns-in-Err c = key_stopped c.args.tx.now c.map_get.new.self c.requires.ready (MapGet c.args.map c.args.account) _ c.args.map c.args.account 3 c.in-Err.stop c.of_map.result c.of_map.ensures c.in-Err.ensures

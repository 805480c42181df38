use Rattle.serial_terms.specs.declared.call.Call.TheVariants.{MapPut}
use Rattle.serial_terms.specs.declared.call.Reply.TheVariants.{Nothing}
use Rattle.store_bodies.proofs.Calling.{keyed, key_stopped}
use Rattle.store_bodies.proofs.calls.set.Goals as goal

pub returns-in-Ok : goal.returns-in-Ok
returns-in-Ok c = keyed c.args.tx.now c.map_put.new.self c.requires.ready (MapPut c.args.map c.args.account c.args.amount) (λ x. Nothing) c.args.map c.args.account 0 c.in-Ok.field-0 c.in-Ok.ensures.called

pub returns-in-Err : goal.returns-in-Err
returns-in-Err c = key_stopped c.args.tx.now c.map_put.new.self c.requires.ready (MapPut c.args.map c.args.account c.args.amount) _ c.args.map c.args.account 0 c.in-Err.stop c.of_map.result c.of_map.ensures c.in-Err.ensures.called

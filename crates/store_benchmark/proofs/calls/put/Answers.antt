use Rattle.serial_terms.specs.declared.call.Call.TheVariants.{MapPut}
use Rattle.serial_terms.specs.declared.call.Reply.TheVariants.{Nothing}
use Rattle.store_benchmark.proofs.Asking.{keyed, key_stopped}
use Rattle.store_benchmark.proofs.calls.put.Goals as goal

pub returns-in-Ok : goal.returns-in-Ok
returns-in-Ok c = keyed c.args.tx.now c.map_put.new.self c.requires.ready (MapPut 0 c.args.key c.args.value) _ (λ x. Nothing) 0 c.args.key 0 c.in-Ok.field-0 c.in-Ok.ensures.called

pub returns-in-Err : goal.returns-in-Err
returns-in-Err c = key_stopped c.args.tx.now c.map_put.new.self c.requires.ready (MapPut 0 c.args.key c.args.value) _ _ 0 c.args.key 0 c.in-Err.stop c.of_map.result c.of_map.ensures c.in-Err.ensures.called

use Rattle.std.specs.Prelude.{◌+◌, [], ◌∷◌}
use Rattle.serial_terms.specs.declared.call.Call.TheVariants.{CellPut}
use Rattle.serial_terms.specs.declared.call.Reply.TheVariants.{Nothing}
use Rattle.serial_terms.specs.Serial.{outside}
use Rattle.run_bodies.proofs.filling.count_fill.Goals as goal
use Rattle.tx_store.specs.Bodies.{NoMap}
use Rattle.tx_store.specs.BodyFacts.{does_then, stops_after, acts_then}

pub returns-in-Err-has_count : goal.returns-in-Err-has_count
returns-in-Err-has_count c = stops_after c.args.tx.now c.is_empty.new.tx c.has_count.new.tx c.in-Err-has_count.stop c.in-Ok.ensures.same c.in-Err-has_count.ensures

pub returns : goal.returns
returns c =
    acts_then NoMap c.args.tx.now c.has_count.new.tx c.put_count.new.tx _ (λ _. outside (CellPut 0 (c.args.fills + 1)) Nothing ∷ []) c.put_count.result
    (does_then c.args.tx.now c.is_empty.new.tx c.has_count.new.tx _ _ c.in-Ok.ensures c.in-Ok-has_count.ensures) c.put_count.ensures

use Rattle.std.proofs.Common.{◌<◌, ℕ, [], ◌∷◌, length, Option, Some, sym, subst}
use Rattle.std.specs.Prelude.{get_or}
use Rattle.serial_terms.specs.declared.call.Call.TheVariants.{MapGet, MapRemove}
use Rattle.serial_terms.specs.declared.call.Reply.TheVariants.{Nothing}
use Rattle.serial_terms.specs.Serial.{outside, found}
use Rattle.tx_store.specs.Bodies.{Does}
use Rattle.tx_store.specs.BodyFacts.{does_then, stops_after}
use Rattle.tx_store.specs.Stores.{StoreView}
use Rattle.run_bodies.proofs.Outside.{may_go_on}
use Rattle.run_bodies.proofs.matching.collecting.follow_link.Goals as goal

pub remove-requires-clause-running : goal.remove-requires-clause-running
remove-requires-clause-running g c = may_go_on c.args.tx.now c.get.new.tx _ c.requires.running c.in-Ok.ensures

pub remove-requires-clause-map : goal.remove-requires-clause-map
remove-requires-clause-map g c = subst (λ (s : StoreView _). 1 < length s.table.meaning.plan.maps) (sym c.in-Ok.ensures.same.store) c.requires.map

pub remove-requires-clause-key : goal.remove-requires-clause-key
remove-requires-clause-key g c = subst (λ (s : StoreView _). c.args.task < get_or s.table.meaning.plan.maps 1 0) (sym c.in-Ok.ensures.same.store) c.requires.key

pub returns-in-None : goal.returns-in-None
returns-in-None g c = subst (λ (o : Option ℕ). Does c.args.tx.now c.get.new.tx (outside (MapGet 1 c.args.task) (found o) ∷ [])) c.in-None.is c.in-Ok.ensures

pub returns-in-Ok-remove : goal.returns-in-Ok-remove
returns-in-Ok-remove g c =
    does_then c.args.tx.now c.get.new.tx c.remove.new.tx (outside (MapGet 1 c.args.task) (found (Some c.in-Some.before)) ∷ []) (outside (MapRemove 1 c.args.task) Nothing ∷ [])
    (subst (λ (o : Option ℕ). Does c.args.tx.now c.get.new.tx (outside (MapGet 1 c.args.task) (found o) ∷ [])) c.in-Some.is c.in-Ok.ensures) c.in-Ok-remove.ensures

pub returns-in-Err-remove : goal.returns-in-Err-remove
returns-in-Err-remove g c = stops_after c.args.tx.now c.get.new.tx c.remove.new.tx c.in-Err-remove.stop c.in-Ok.ensures.same c.in-Err-remove.ensures

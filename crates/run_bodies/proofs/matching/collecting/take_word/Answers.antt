use Rattle.std.proofs.Common.{ℕ, [], ◌∷◌, Option, Some, subst}
use Rattle.serial_terms.specs.declared.call.Call.TheVariants.{MapGet, MapRemove}
use Rattle.serial_terms.specs.declared.call.Reply.TheVariants.{Nothing}
use Rattle.serial_terms.specs.Renaming.{by_key}
use Rattle.serial_terms.specs.Serial.{outside, found}
use Rattle.run_purpose.specs.declared.item.Item.TheVariants.{Group}
use Rattle.tx_store.specs.Bodies.{Does}
use Rattle.tx_store.specs.BodyFacts.{does_then, stops_after}
use Rattle.run_bodies.specs.Matching.{dequeued}
use Rattle.run_bodies.specs.RunStores.{work_of_run}
use Rattle.run_bodies.proofs.Allowing.{run_store_after}
use Rattle.run_bodies.proofs.Items.{group_there, group_key, told_word}
use Rattle.run_bodies.proofs.Outside.{may_go_on, noted_then}
use Rattle.run_bodies.proofs.matching.collecting.take_word.Goals as goal

pub get-requires-clause-map : goal.get-requires-clause-map
get-requires-clause-map g c =
    (group_key c.args.run.now c.args.tx.now.store.table.meaning.plan c.told_law.ensures.parts c.args.group (group_there c.args.run.now c.tasks_have_facts_law.ensures c.told_law.ensures.runs.lawful.sound c.args.group c.requires.complete)).0

pub get-requires-clause-key : goal.get-requires-clause-key
get-requires-clause-key g c =
    (group_key c.args.run.now c.args.tx.now.store.table.meaning.plan c.told_law.ensures.parts c.args.group (group_there c.args.run.now c.tasks_have_facts_law.ensures c.told_law.ensures.runs.lawful.sound c.args.group c.requires.complete)).1

pub told_law-requires-2 : goal.told_law-requires-2
told_law-requires-2 g c = record { store = run_store_after c.args.run.now c.args.tx.now c.get.new.tx c.in-Ok.ensures.same c.requires.store }

pub unreachable-requires : goal.unreachable-requires
unreachable-requires g c =
    told_word (work_of_run c.args.run.now) (by_key c.get.new.tx.attempt.notes) c.args.group c.in-Ok.value c.told_law-2.ensures.tell c.told_law-2.ensures.runs
    (noted_then c.args.tx.now c.get.new.tx (dequeued (Some (Group c.args.group)) ∷ []) (outside (MapGet 0 c.args.group) (found c.in-Ok.value) ∷ []) c.requires.taken c.in-Ok.ensures) c.in-None.is

pub remove-requires-clause-running : goal.remove-requires-clause-running
remove-requires-clause-running g c = may_go_on c.args.tx.now c.get.new.tx _ c.requires.running c.in-Ok.ensures

pub remove-requires-clause-map : goal.remove-requires-clause-map
remove-requires-clause-map g c =
    (group_key c.args.run.now c.get.new.tx.store.table.meaning.plan c.told_law-2.ensures.parts c.args.group (group_there c.args.run.now c.tasks_have_facts_law.ensures c.told_law.ensures.runs.lawful.sound c.args.group c.requires.complete)).0

pub remove-requires-clause-key : goal.remove-requires-clause-key
remove-requires-clause-key g c =
    (group_key c.args.run.now c.get.new.tx.store.table.meaning.plan c.told_law-2.ensures.parts c.args.group (group_there c.args.run.now c.tasks_have_facts_law.ensures c.told_law.ensures.runs.lawful.sound c.args.group c.requires.complete)).1

pub returns-in-Err-remove : goal.returns-in-Err-remove
returns-in-Err-remove g c = stops_after c.args.tx.now c.get.new.tx c.remove.new.tx c.in-Err-remove.stop c.in-Ok.ensures.same c.in-Err-remove.ensures

pub returns : goal.returns
returns g c =
    does_then c.args.tx.now c.get.new.tx c.remove.new.tx (outside (MapGet 0 c.args.group) (found (Some c.in-Some.word)) ∷ []) (outside (MapRemove 0 c.args.group) Nothing ∷ [])
    (subst (λ (o : Option ℕ). Does c.args.tx.now c.get.new.tx (outside (MapGet 0 c.args.group) (found o) ∷ [])) c.in-Some.is c.in-Ok.ensures) c.in-Ok-remove.ensures

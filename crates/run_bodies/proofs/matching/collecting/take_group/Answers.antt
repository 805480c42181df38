use Rattle.std.proofs.Common.{[], ◌∷◌, Some}
use Rattle.run_purpose.specs.declared.item.Item.TheVariants.{Group}
use Rattle.tx_store.specs.BodyFacts.{stops_after}
use Rattle.run_bodies.specs.Matching.{dequeued, word_taken}
use Rattle.run_bodies.specs.RunStores.{work_of_run}
use Rattle.run_bodies.proofs.Allowing.{run_store_after}
use Rattle.run_bodies.proofs.Outside.{may_go_on, noted_then}
use Rattle.run_bodies.proofs.Walking.{out_group}
use Rattle.run_bodies.proofs.matching.collecting.take_group.Goals as goal

pub walk-requires-clause-running : goal.walk-requires-clause-running
walk-requires-clause-running g c = may_go_on c.args.tx.now c.take_word.new.tx _ c.requires.running c.in-Ok.ensures

pub walk-requires-clause-store : goal.walk-requires-clause-store
walk-requires-clause-store g c = run_store_after c.args.run.now c.args.tx.now c.take_word.new.tx c.in-Ok.ensures.same c.requires.store

pub walk-requires-clause-taken : goal.walk-requires-clause-taken
walk-requires-clause-taken g c = noted_then c.args.tx.now c.take_word.new.tx (dequeued (Some (Group c.args.group)) ∷ []) (word_taken c.args.group c.in-Ok.word) c.requires.taken c.in-Ok.ensures

pub returns-in-Ok-walk-clause-out : goal.returns-in-Ok-walk-clause-out
returns-in-Ok-walk-clause-out g c = out_group (work_of_run c.args.run.now) c.args.group c.in-Ok.word c.args.tx.now c.take_word.new.tx c.walk.new.tx c.walk.new.chain.items c.in-Ok.ensures c.in-Ok-walk.ensures.walked

pub returns-in-Err-walk-clause-stopped : goal.returns-in-Err-walk-clause-stopped
returns-in-Err-walk-clause-stopped g c = stops_after c.args.tx.now c.take_word.new.tx c.walk.new.tx c.in-Err-walk.stop c.in-Ok.ensures.same c.in-Err-walk.ensures.stopped

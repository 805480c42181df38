use Rattle.std.proofs.Common.{[], ◌∷◌, Option, Some, ap, ◌∙◌, subst}
use Rattle.serial_terms.specs.Renaming.{by_key}
use Rattle.run_purpose.specs.declared.item.Item.{Item}
use Rattle.tx_store.specs.Bodies.{Does}
use Rattle.tx_store.specs.BodyFacts.{stops_after}
use Rattle.run_bodies.specs.Matching.{dequeued}
use Rattle.run_bodies.specs.RunStores.{work_of_run}
use Rattle.run_bodies.proofs.Allowing.{may_after, may_before, tried_none, tried_one}
use Rattle.run_bodies.proofs.Outside.{noted_then}
use Rattle.run_bodies.proofs.matching.Matching.match_next.Goals as goal

pub match_item-requires-clause-running : goal.match_item-requires-clause-running
match_item-requires-clause-running g c = record { running = c.in-Ok-Some.ensures.acts.state ∙ c.requires.fresh.running; before_commit = c.in-Ok-Some.ensures.acts.same.before_commit }

pub match_item-requires-clause-may : goal.match_item-requires-clause-may
match_item-requires-clause-may g c = may_after c.args.self.now.run.now c.args.tx.now c.next_item.new.tx c.in-Ok-Some.ensures.acts.same _ _ _ c.requires.may

pub match_item-requires-clause-taken : goal.match_item-requires-clause-taken
match_item-requires-clause-taken g c = noted_then c.args.tx.now c.next_item.new.tx [] (dequeued (Some c.in-Ok-Some.item) ∷ []) (ap by_key c.requires.fresh.notes) (subst (λ (item : Option Item). Does c.args.tx.now c.next_item.new.tx (dequeued item ∷ [])) c.in-Ok-Some.field-0-is c.in-Ok-Some.ensures.acts)

pub returns-in-Ok-None-clause-tried : goal.returns-in-Ok-None-clause-tried
returns-in-Ok-None-clause-tried g c = tried_none (work_of_run c.args.self.now.run.now) c.args.tx.now c.next_item.new.tx (subst (λ (item : Option Item). Does c.args.tx.now c.next_item.new.tx (dequeued item ∷ [])) c.in-Ok-None.field-0-is c.in-Ok-None.ensures.acts)

pub returns-in-Ok-clause-tried : goal.returns-in-Ok-clause-tried
returns-in-Ok-clause-tried g c = tried_one (work_of_run c.args.self.now.run.now) c.in-Ok-Some.item c.args.tx.now c.next_item.new.tx c.match_item.new.tx (subst (λ (item : Option Item). Does c.args.tx.now c.next_item.new.tx (dequeued item ∷ [])) c.in-Ok-Some.field-0-is c.in-Ok-Some.ensures.acts) c.in-Ok.ensures.matched

pub returns-in-Ok-clause-again : goal.returns-in-Ok-clause-again
returns-in-Ok-clause-again g c = may_before c.match_item.new.self.run.now c.args.tx.now c.next_item.new.tx c.in-Ok-Some.ensures.acts.same _ _ _ c.match_item.ensures.again

pub returns-in-Err-match_item-clause-stopped : goal.returns-in-Err-match_item-clause-stopped
returns-in-Err-match_item-clause-stopped g c = stops_after c.args.tx.now c.next_item.new.tx c.match_item.new.tx c.in-Err-match_item.stop c.in-Ok-Some.ensures.acts.same c.in-Err-match_item.ensures.stopped

pub returns-in-Err-match_item-clause-again : goal.returns-in-Err-match_item-clause-again
returns-in-Err-match_item-clause-again g c = may_before c.match_item.new.self.run.now c.args.tx.now c.next_item.new.tx c.in-Ok-Some.ensures.acts.same _ _ _ c.match_item.ensures.again

use Rattle.run_bodies.proofs.FillingEnds.{acts_same, acts_stopped, acts_full, ends_filled}
use Rattle.run_bodies.proofs.filling.FillingBodyRunPurpose.body.Goals as goal
use Rattle.run_bodies.specs.RunStores.{work_of_run}
use Rattle.run_stages.specs.Allowed.{gives, next_batch}
use Rattle.tx_store.specs.Bodies.{NoMap}
use Rattle.tx_store.specs.BodyFacts.{acts_then, same_then}

pub returns-clause-same : goal.returns-clause-same
returns-clause-same c =
    same_then c.args.tx.now c.count_fill.new.tx c.give_batch.new.tx c.in-Ok.ensures.same (acts_same c.count_fill.new.tx c.give_batch.new.tx _ c.give_batch.result c.give_batch.ensures)

pub returns-clause-ok : goal.returns-clause-ok
returns-clause-ok c =
    let p = c.args.self.now.run.now in
    let w = work_of_run p in
    let f = c.args.self.now.fills in
    ends_filled p c.args.tx.now c.requires.fresh c.requires.can_run.0 c.give_batch.new.tx f _ c.give_batch.result
    (c.tasks_have_facts_law.ensures p.rules.now p.bytes.now p.plan.now.tasks.items p.plan.now.groups.items).0 c.requires.can_run.1
    (acts_then NoMap c.args.tx.now c.count_fill.new.tx c.give_batch.new.tx _ (λ _. gives w (next_batch w f)) c.give_batch.result c.in-Ok.ensures c.give_batch.ensures)

pub returns-clause-stopped : goal.returns-clause-stopped
returns-clause-stopped c =
    let w = work_of_run c.args.self.now.run.now in
    acts_stopped c.args.tx.now c.give_batch.new.tx _ c.give_batch.result
    (acts_then NoMap c.args.tx.now c.count_fill.new.tx c.give_batch.new.tx _ (λ _. gives w (next_batch w c.args.self.now.fills)) c.give_batch.result c.in-Ok.ensures c.give_batch.ensures)

pub returns-clause-full : goal.returns-clause-full
returns-clause-full c =
    let w = work_of_run c.args.self.now.run.now in
    acts_full c.count_fill.new.tx c.give_batch.new.tx (λ _. gives w (next_batch w c.args.self.now.fills)) c.give_batch.result c.give_batch.ensures

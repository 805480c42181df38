use Rattle.std.proofs.Common.{ℕ, length, Option, subst, arith}
use Rattle.tx_store.specs.Bodies.{Does}
use Rattle.tx_store.specs.BodyFacts.{stops_after}
use Rattle.run_bodies.specs.Matching.{linked_from}
use Rattle.run_bodies.specs.RunStores.{work_of_run}
use Rattle.run_bodies.proofs.Allowing.{run_store_after}
use Rattle.run_bodies.proofs.Items.{task_there, task_key}
use Rattle.run_bodies.proofs.Outside.{may_go_on, wants_memory}
use Rattle.run_bodies.proofs.Walking.{member, few_so_far, comes_nearer, walks_on, walk_ended, walk_begins}
use Rattle.run_bodies.proofs.matching.collecting.walk.Goals as goal

pub links-init : goal.links-init
links-init g c = walk_begins (work_of_run c.args.run.now) c.args.group c.args.word c.args.tx.now c.args.chain.now.items c.of-last.result.head c.requires.running.before_commit c.requires.empty c.of-last.ensures.head

pub returns-in-Err-clause-stopped : goal.returns-in-Err-clause-stopped
returns-in-Err-clause-stopped g c = wants_memory c.args.tx.now c.links.tx _ c.links.invariant.does

pub walk_tells_law-requires : goal.walk_tells_law-requires
walk_tells_law-requires g c = run_store_after c.args.run.now c.args.tx.now c.links.tx c.links.invariant.does.same c.requires.store

pub follow_link-requires-clause-running : goal.follow_link-requires-clause-running
follow_link-requires-clause-running g c = may_go_on c.args.tx.now c.links.tx _ c.requires.running c.links.invariant.does

pub follow_link-requires-clause-map : goal.follow_link-requires-clause-map
follow_link-requires-clause-map g c =
    let w = work_of_run c.args.run.now in
    let low = (member w c.args.group c.args.word c.args.tx.now c.links.tx c.links.chain.items c.links.last c.requires.taken c.links.invariant c.walk_tells_law.ensures).below in
    (task_key c.args.run.now c.links.tx.store.table.meaning.plan (rw c.links.invariant.does.same.store c.told_law.ensures.parts) c.links.last (task_there c.args.run.now c.tasks_have_facts_law.ensures c.links.last low)).0

pub follow_link-requires-clause-key : goal.follow_link-requires-clause-key
follow_link-requires-clause-key g c =
    let w = work_of_run c.args.run.now in
    let low = (member w c.args.group c.args.word c.args.tx.now c.links.tx c.links.chain.items c.links.last c.requires.taken c.links.invariant c.walk_tells_law.ensures).below in
    (task_key c.args.run.now c.links.tx.store.table.meaning.plan (rw c.links.invariant.does.same.store c.told_law.ensures.parts) c.links.last (task_there c.args.run.now c.tasks_have_facts_law.ensures c.links.last low)).1

pub overflow_cast-last : goal.overflow_cast-last
overflow_cast-last g c =
    let w = work_of_run c.args.run.now in
    let link = subst (λ (next : Option ℕ). Does c.links.tx c.follow_link.new.tx (linked_from c.links.last next)) c.in-Ok-Some.field-0-is c.in-Ok-Some.ensures in
    let on = walks_on w c.args.group c.args.word c.args.tx.now c.links.tx c.links.chain.items c.links.last c.requires.taken c.links.invariant c.push.new.self.items c.in-Ok.ensures.items c.follow_link.new.tx c.in-Ok-Some.before link in
    let low = (member w c.args.group c.args.word c.args.tx.now c.follow_link.new.tx c.push.new.self.items c.in-Ok-Some.before c.requires.taken on c.walk_tells_law-in-Ok-Some.ensures).below in
    let there = task_there c.args.run.now c.tasks_have_facts_law.ensures c.in-Ok-Some.before low in
    let most = c.told_law.ensures.small.tasks in
    omega (arith, there, most)

pub links-smaller : goal.links-smaller
links-smaller g c =
    let w = work_of_run c.args.run.now in
    comes_nearer (length w.tasks) c.links.last c.links.chain.items c.push.new.self.items
    (few_so_far w c.args.group c.args.word c.args.tx.now c.links.tx c.links.chain.items c.links.last c.requires.taken c.links.invariant c.walk_tells_law.ensures) c.in-Ok.ensures.items

pub links-preserved : goal.links-preserved
links-preserved g c =
    let link = subst (λ (next : Option ℕ). Does c.links.tx c.follow_link.new.tx (linked_from c.links.last next)) c.in-Ok-Some.field-0-is c.in-Ok-Some.ensures in
    walks_on (work_of_run c.args.run.now) c.args.group c.args.word c.args.tx.now c.links.tx c.links.chain.items c.links.last c.requires.taken c.links.invariant c.push.new.self.items c.in-Ok.ensures.items c.follow_link.new.tx c.in-Ok-Some.before link

pub returns-in-Ok-None-clause-walked : goal.returns-in-Ok-None-clause-walked
returns-in-Ok-None-clause-walked g c =
    let link = subst (λ (next : Option ℕ). Does c.links.tx c.follow_link.new.tx (linked_from c.links.last next)) c.in-Ok-None.field-0-is c.in-Ok-None.ensures in
    walk_ended (work_of_run c.args.run.now) c.args.group c.args.word c.args.tx.now c.links.tx c.links.chain.items c.links.last c.requires.taken c.links.invariant c.push.new.self.items c.in-Ok.ensures.items c.follow_link.new.tx link c.walk_ends_law.ensures

pub returns-in-Err-follow_link-clause-stopped : goal.returns-in-Err-follow_link-clause-stopped
returns-in-Err-follow_link-clause-stopped g c = stops_after c.args.tx.now c.links.tx c.follow_link.new.tx c.in-Err-follow_link.stop c.links.invariant.does.same c.in-Err-follow_link.ensures

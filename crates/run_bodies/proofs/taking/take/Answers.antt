use Rattle.std.proofs.Common.{◌∙◌, sym, arith}
use Rattle.std.specs.Prelude.{Err}
use Rattle.serial_terms.specs.declared.call.Call.TheVariants.{Take}
use Rattle.serial_terms.specs.Serial.{found}
use Rattle.run_bodies.proofs.Outside.{acts_outside}
use Rattle.run_bodies.proofs.Taken.{took, taken_there}
use Rattle.run_bodies.proofs.taking.take.Goals as goal

pub returns-in-Err-clause-acts : goal.returns-in-Err-clause-acts
returns-in-Err-clause-acts g c =
    let fresh = c.requires.fresh in
    acts_outside _ _ _ c.args.tx.now c.pool_take.new.self (Take 0) found (Err c.in-Err.stop) (record { running = fresh.running; before_commit = fresh.before_commit }) c.in-Err.ensures

pub task_of-requires : goal.task_of-requires
task_of-requires g c = λ i some.
    let p = c.args.run.now in
    let low = taken_there _ _ c.told_law-2.ensures.runs c.told_law-2.ensures.tell c.in-Ok.item (took _ _ _ c.args.tx.now c.pool_take.new.self c.in-Ok.item c.requires.fresh c.in-Ok.ensures) i some in
    let count = (c.tasks_have_facts_law.ensures p.rules.now p.bytes.now p.plan.now.tasks.items p.plan.now.groups.items).0 in
    let few = c.told_law-2.ensures.small.tasks in
    omega arith

pub returns-clause-there : goal.returns-clause-there
returns-clause-there g c = λ i some.
    let p = c.args.run.now in
    let low = taken_there _ _ c.told_law-2.ensures.runs c.told_law-2.ensures.tell c.in-Ok.item (took _ _ _ c.args.tx.now c.pool_take.new.self c.in-Ok.item c.requires.fresh c.in-Ok.ensures) i (sym c.task_of.ensures ∙ some) in
    let count = (c.tasks_have_facts_law.ensures p.rules.now p.bytes.now p.plan.now.tasks.items p.plan.now.groups.items).0 in
    omega arith

use Rattle.std.proofs.Common.{ℕ, [], ◌∷◌, Option, subst, arith}
use Rattle.serial_terms.specs.declared.call.Call.TheVariants.{Dequeue}
use Rattle.serial_terms.specs.Serial.{outside, found}
use Rattle.tx_store.specs.Bodies.{Does}
use Rattle.run_bodies.proofs.Allowing.{run_store_after}
use Rattle.run_bodies.proofs.Items.{gave_small, gave_dequeued, gave_datagram}
use Rattle.run_bodies.proofs.matching.collecting.next_item.Goals as goal

pub dequeue-requires-clause-running : goal.dequeue-requires-clause-running
dequeue-requires-clause-running g c = record { running = c.requires.fresh.running; before_commit = c.requires.fresh.before_commit }

pub dequeue-requires-clause-queue : goal.dequeue-requires-clause-queue
dequeue-requires-clause-queue g c = omega (arith, c.told_law.ensures.parts.queues)

pub told_law-requires-2 : goal.told_law-requires-2
told_law-requires-2 g c = record { store = run_store_after c.args.run.now c.args.tx.now c.dequeue.new.tx c.in-Ok.ensures.same c.requires.store }

pub of-requires : goal.of-requires
of-requires g c =
    gave_small c.args.run.now c.tasks_have_facts_law.ensures c.args.tx.now c.dequeue.new.tx c.requires.fresh c.in-Ok.value c.in-Some.value c.in-Some.is c.in-Ok.ensures c.told_law-2.ensures.runs c.told_law-2.ensures.tell c.told_law-2.ensures.small

pub returns-in-None-clause-acts : goal.returns-in-None-clause-acts
returns-in-None-clause-acts g c = subst (λ (o : Option ℕ). Does c.args.tx.now c.dequeue.new.tx (outside (Dequeue 0) (found o) ∷ [])) c.in-None.is c.in-Ok.ensures

pub returns-in-Some-clause-acts : goal.returns-in-Some-clause-acts
returns-in-Some-clause-acts g c =
    gave_dequeued c.args.run.now c.tasks_have_facts_law.ensures c.args.tx.now c.dequeue.new.tx c.requires.fresh c.in-Ok.value c.in-Some.value c.in-Some.is c.in-Ok.ensures c.told_law-2.ensures.runs c.told_law-2.ensures.tell c.of.result c.of.ensures

pub returns-in-Some-clause-datagram : goal.returns-in-Some-clause-datagram
returns-in-Some-clause-datagram g c =
    gave_datagram c.args.run.now c.tasks_have_facts_law.ensures c.args.tx.now c.dequeue.new.tx c.requires.fresh c.in-Ok.value c.in-Some.value c.in-Some.is c.in-Ok.ensures c.told_law-2.ensures.runs c.told_law-2.ensures.tell c.of.result c.of.ensures

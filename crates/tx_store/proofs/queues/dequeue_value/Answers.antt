use Rattle.std.proofs.Common.{arith}
use Rattle.serial_terms.specs.declared.call.Call.TheVariants.{Dequeue}
use Rattle.serial_terms.specs.Serial.{found}
use Rattle.store_layout.specs.Shapes.{the_queue}
use Rattle.store_parts.specs.Parts.{progress}
use Rattle.tx_queue.specs.Queue.{IsFront}
use Rattle.tx_store.specs.Calls.{in_child}
use Rattle.tx_store.proofs.QueueCalls.{front_inside, waits_but_first, words_stay, goes_dequeued}
use Rattle.tx_store.proofs.Telling.{on_call, on_refused, on_stopped}
use Rattle.tx_store.proofs.queues.dequeue_value.Goals as goal

pub returns-in-Ok-note_call : goal.returns-in-Ok-note_call
returns-in-Ok-note_call g c =
    let s = c.args.plan.now in let q = c.args.queue in let part = c.queue_of-part.result in let e = c.in-Ok.ensures in
    let is = c.queue_of-part.ensures.part in let old = c.args.tx.now in let made = c.dequeue.new.tx in
    on_call g.P.Keys.KeyTest.passes s (the_queue q) (IsFront part old made) 6 6 (front_inside s q c.requires.queue part is old made) (omega arith)
    (c.attempts_follow_law.ensures s) old made c.note_call.new.tx (Dequeue q) c.reply_of.result (found c.in-Ok.value) 0 c.requires.callable.open_now
    e.holds (goes_dequeued s old made e.same e.others.marked (waits_but_first s q c.requires.queue part is old made e.others e.rest)) tt
    (λ touches. (c.queue_calls_law.ensures s q is c.requires.queue c.queue_of-part.ensures.small).dequeue (progress old) (progress made) c.in-Ok.value (in_child old.state) touches
    (words_stay part old made c.laid_over_law.ensures.ascending c.laid_over_law-2.ensures.ascending e.end_alone) e.others.others e.taken)
    c.reply_of.ensures c.in-Ok-note_call.ensures.ok

pub returns-in-Err : goal.returns-in-Err
returns-in-Err g c =
    let s = c.args.plan.now in let q = c.args.queue in let part = c.queue_of-part.result in let e = c.in-Err.ensures in
    let is = c.queue_of-part.ensures.part in let old = c.args.tx.now in let made = c.dequeue.new.tx in
    on_stopped g.P.Keys.KeyTest.passes s (the_queue q) (IsFront part old made) 6 6 (front_inside s q c.requires.queue part is old made) (omega arith)
    old made c.in-Err.stop e.holds (goes_dequeued s old made e.same e.others.marked (waits_but_first s q c.requires.queue part is old made e.others e.rest))

pub returns-in-Err-note_call : goal.returns-in-Err-note_call
returns-in-Err-note_call g c =
    let s = c.args.plan.now in let q = c.args.queue in let part = c.queue_of-part.result in let e = c.in-Ok.ensures in
    let is = c.queue_of-part.ensures.part in let old = c.args.tx.now in let made = c.dequeue.new.tx in
    on_refused g.P.Keys.KeyTest.passes s (the_queue q) (IsFront part old made) 6 6 (front_inside s q c.requires.queue part is old made) (omega arith)
    old made c.note_call.new.tx e.holds (goes_dequeued s old made e.same e.others.marked (waits_but_first s q c.requires.queue part is old made e.others e.rest)) c.in-Err-note_call.ensures.stopped

use Rattle.std.proofs.Common.{refl, ap, arith}
use Rattle.serial_terms.specs.declared.call.Call.TheVariants.{Enqueue}
use Rattle.serial_terms.specs.declared.call.Reply.TheVariants.{Nothing}
use Rattle.store_layout.specs.Shapes.{the_queue}
use Rattle.store_parts.specs.Parts.{progress}
use Rattle.tx_core.specs.Facts.{holds_looks}
use Rattle.tx_core.specs.declared.stop.Stop.TheVariants.{Memory}
use Rattle.tx_store.specs.Calls.{in_child}
use Rattle.tx_store.proofs.LogCalls.{goes_added, goes_halted}
use Rattle.tx_store.proofs.QueueCalls.{waits_in_queue}
use Rattle.tx_store.proofs.Telling.{on_call, on_refused, on_stopped}
use Rattle.tx_store.proofs.queues.enqueue_value.Goals as goal

pub returns-in-Ok-note_call : goal.returns-in-Ok-note_call
returns-in-Ok-note_call g c =
    let s = c.args.plan.now in let q = c.args.queue in let part = c.queue_of-part.result in let e = c.in-Ok.ensures in
    let old = c.args.tx.now in let made = c.enqueue.new.tx in
    on_call g.P.Keys.KeyTest.passes s (the_queue q) (λ d. ⊥) 0 0 (λ d own. absurd own) (omega arith)
    (c.attempts_follow_law.ensures s) old made c.note_call.new.tx (Enqueue q c.args.value) Nothing Nothing 0 c.requires.callable.open_now
    (holds_looks (λ d. ⊥) 0 old made _ e.looks) (goes_added s old made _ _ e.ok e.added.marked (waits_in_queue s q c.requires.queue part c.queue_of-part.ensures.part old made c.args.value c.requires.value e.added)) tt
    (λ touches. (c.queue_calls_law.ensures s q c.queue_of-part.ensures.part c.requires.queue c.queue_of-part.ensures.small).enqueue (progress old) (progress made) c.args.value (in_child old.state) touches
    (ap (λ a. a.writes) e.ok) e.added.others e.appended)
    refl c.in-Ok-note_call.ensures.ok

pub returns-in-Err : goal.returns-in-Err
returns-in-Err g c =
    let s = c.args.plan.now in let q = c.args.queue in let e = c.in-Err.ensures in
    let old = c.args.tx.now in let made = c.enqueue.new.tx in
    on_stopped g.P.Keys.KeyTest.passes s (the_queue q) (λ d. ⊥) 0 0 (λ d own. absurd own) (omega arith)
    old made Memory (holds_looks (λ d. ⊥) 0 old made _ e.looks) (goes_halted s old made _ e.stopped)

pub returns-in-Err-note_call : goal.returns-in-Err-note_call
returns-in-Err-note_call g c =
    let s = c.args.plan.now in let q = c.args.queue in let part = c.queue_of-part.result in let e = c.in-Ok.ensures in
    let old = c.args.tx.now in let made = c.enqueue.new.tx in
    on_refused g.P.Keys.KeyTest.passes s (the_queue q) (λ d. ⊥) 0 0 (λ d own. absurd own) (omega arith)
    old made c.note_call.new.tx (holds_looks (λ d. ⊥) 0 old made _ e.looks)
    (goes_added s old made _ _ e.ok e.added.marked (waits_in_queue s q c.requires.queue part c.queue_of-part.ensures.part old made c.args.value c.requires.value e.added)) c.in-Err-note_call.ensures.stopped

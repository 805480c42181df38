use Rattle.std.proofs.Common.{◌≡◌, refl, ap, arith}
use Rattle.serial_terms.specs.declared.call.Call.TheVariants.{QueueLen}
use Rattle.serial_terms.specs.declared.call.Reply.TheVariants.{Value}
use Rattle.store_layout.specs.Shapes.{the_queue}
use Rattle.store_parts.specs.Parts.{progress}
use Rattle.tx_core.specs.Facts.{holds_looks}
use Rattle.tx_store.specs.Calls.{in_child}
use Rattle.tx_store.proofs.LogCalls.{goes_looked, waits_looked}
use Rattle.tx_store.proofs.QueueCalls.{end_inside}
use Rattle.tx_store.proofs.Telling.{on_call, on_refused, on_stopped}
use Rattle.tx_store.proofs.queues.queue_length.Goals as goal

pub returns-in-Ok-note_call : goal.returns-in-Ok-note_call
returns-in-Ok-note_call g c =
    let s = c.args.plan.now in let q = c.args.queue in let part = c.queue_of-part.result in let e = c.in-Ok.ensures in
    let old = c.args.tx.now in let made = c.len.new.tx in
    on_call g.P.Keys.KeyTest.passes s (the_queue q) (λ d. d ≡ part.end) 3 3 (end_inside s q c.requires.queue part c.queue_of-part.ensures.part) (omega arith)
    (c.attempts_follow_law.ensures s) old made c.note_call.new.tx (QueueLen q) (Value c.in-Ok.length) (Value c.in-Ok.length) 0 c.requires.callable.open_now
    (holds_looks (λ d. d ≡ part.end) 3 old made _ e.looks) (goes_looked s old made e.same) tt
    (λ touches. (c.queue_calls_law.ensures s q c.queue_of-part.ensures.part c.requires.queue c.queue_of-part.ensures.small).len (progress old) (progress made) c.in-Ok.length (in_child old.state) touches
    (ap (λ a. a.writes) e.same) (waits_looked s old made e.same) e.length)
    refl c.in-Ok-note_call.ensures.ok

pub returns-in-Err : goal.returns-in-Err
returns-in-Err g c =
    let s = c.args.plan.now in let q = c.args.queue in let part = c.queue_of-part.result in let e = c.in-Err.ensures in
    let old = c.args.tx.now in let made = c.len.new.tx in
    on_stopped g.P.Keys.KeyTest.passes s (the_queue q) (λ d. d ≡ part.end) 3 3 (end_inside s q c.requires.queue part c.queue_of-part.ensures.part) (omega arith)
    old made c.in-Err.stop (holds_looks (λ d. d ≡ part.end) 3 old made _ e.looks) (goes_looked s old made e.same)

pub returns-in-Err-note_call : goal.returns-in-Err-note_call
returns-in-Err-note_call g c =
    let s = c.args.plan.now in let q = c.args.queue in let part = c.queue_of-part.result in let e = c.in-Ok.ensures in
    let old = c.args.tx.now in let made = c.len.new.tx in
    on_refused g.P.Keys.KeyTest.passes s (the_queue q) (λ d. d ≡ part.end) 3 3 (end_inside s q c.requires.queue part c.queue_of-part.ensures.part) (omega arith)
    old made c.note_call.new.tx (holds_looks (λ d. d ≡ part.end) 3 old made _ e.looks) (goes_looked s old made e.same) c.in-Err-note_call.ensures.stopped

use Rattle.std.proofs.Common.{refl, ap, arith, ◌∙◌, ◌≡◌, List}
use Rattle.attempt_lists.specs.Parts.{Waiting, marked_of}
use Rattle.serial_terms.specs.declared.call.Call.TheVariants.{AppendPlaced}
use Rattle.serial_terms.specs.declared.call.Reply.TheVariants.{Value}
use Rattle.store_layout.specs.Shapes.{the_log, first_of}
use Rattle.store_parts.specs.Parts.{progress}
use Rattle.tx_log.specs.declared.part.LogPart.{LogPart}
use Rattle.tx_store.specs.Calls.{in_child}
use Rattle.tx_store.proofs.LogCalls.{waits_in_log, end_inside, goes_placed}
use Rattle.tx_store.proofs.Telling.{waits_same, on_call, on_refused, on_stopped}
use Rattle.tx_store.proofs.logs.append_placed.Goals as goal

pub returns-in-Ok-note_call : goal.returns-in-Ok-note_call
returns-in-Ok-note_call g c =
    let s = c.args.plan.now in let l = c.args.log in let part = c.log_of-part.result in let e = c.in-Ok.ensures in
    let old = c.args.tx.now in let made = c.append_placed.new.tx in
    let is_end : part.end ≡ first_of s (the_log l) = ap (λ (q : LogPart). q.end) c.log_of-part.ensures.part in
    on_call g.P.Keys.KeyTest.passes s (the_log l) (λ d. d ≡ part.end) 3 3 (λ d own. end_inside s l c.requires.log d (own ∙ is_end)) (omega arith)
    (c.attempts_follow_law.ensures s) old made c.note_call.new.tx (AppendPlaced l c.args.value) (Value c.in-Ok.place) (Value c.in-Ok.place) 0 c.requires.callable.open_now
    e.holds (goes_placed s old made e.same e.added.0.marked (waits_in_log s old made l c.args.value part.part c.requires.log c.requires.value (ap (λ (q : LogPart). q.part) c.log_of-part.ensures.part) e.added.0)) tt
    (λ touches. (c.log_calls_law.ensures s l c.log_of-part.ensures.part c.requires.log c.log_of-part.ensures.small).append_placed (progress old) (progress made) c.args.value c.in-Ok.place (in_child old.state) touches
    (ap (λ a. a.writes) e.same) e.added.0.others e.placed)
    refl c.in-Ok-note_call.ensures.ok

pub returns-in-Err : goal.returns-in-Err
returns-in-Err g c =
    let s = c.args.plan.now in let l = c.args.log in let part = c.log_of-part.result in let e = c.in-Err.ensures in
    let old = c.args.tx.now in let made = c.append_placed.new.tx in
    let is_end : part.end ≡ first_of s (the_log l) = ap (λ (q : LogPart). q.end) c.log_of-part.ensures.part in
    on_stopped g.P.Keys.KeyTest.passes s (the_log l) (λ d. d ≡ part.end) 3 3 (λ d own. end_inside s l c.requires.log d (own ∙ is_end)) (omega arith)
    old made c.in-Err.stop e.holds (goes_placed s old made e.same (λ p. ap (λ (ws : List Waiting). marked_of ws p) e.refused.0) (waits_same s old made e.refused.0))

pub returns-in-Err-note_call : goal.returns-in-Err-note_call
returns-in-Err-note_call g c =
    let s = c.args.plan.now in let l = c.args.log in let part = c.log_of-part.result in let e = c.in-Ok.ensures in
    let old = c.args.tx.now in let made = c.append_placed.new.tx in
    let is_end : part.end ≡ first_of s (the_log l) = ap (λ (q : LogPart). q.end) c.log_of-part.ensures.part in
    on_refused g.P.Keys.KeyTest.passes s (the_log l) (λ d. d ≡ part.end) 3 3 (λ d own. end_inside s l c.requires.log d (own ∙ is_end)) (omega arith)
    old made c.note_call.new.tx e.holds (goes_placed s old made e.same e.added.0.marked (waits_in_log s old made l c.args.value part.part c.requires.log c.requires.value (ap (λ (q : LogPart). q.part) c.log_of-part.ensures.part) e.added.0)) c.in-Err-note_call.ensures.stopped

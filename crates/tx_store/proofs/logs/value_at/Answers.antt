use Rattle.std.proofs.Common.{ap, arith, subst}
use Rattle.serial_terms.specs.declared.call.Call.TheVariants.{LogRead}
use Rattle.serial_terms.specs.Serial.{found}
use Rattle.store_layout.specs.Shapes.{the_log}
use Rattle.store_parts.specs.Parts.{progress}
use Rattle.tx_core.specs.Facts.{holds_looks}
use Rattle.tx_log.specs.Log.{IsReadOf}
use Rattle.tx_log.specs.declared.part.LogPart.{LogPart}
use Rattle.tx_store.specs.Calls.{in_child}
use Rattle.tx_store.proofs.LogCalls.{read_inside, goes_looked, waits_looked}
use Rattle.tx_store.proofs.Telling.{on_call, on_refused, on_stopped}
use Rattle.tx_store.proofs.logs.value_at.Goals as goal

pub returns-in-Ok-note_call : goal.returns-in-Ok-note_call
returns-in-Ok-note_call g c =
    let s = c.args.plan.now in let l = c.args.log in let i = c.args.i in let part = c.log_of-part.result in let e = c.in-Ok.ensures in
    let old = c.args.tx.now in let made = c.read.new.tx in
    on_call g.P.Keys.KeyTest.passes s (the_log l) (IsReadOf part i) 6 6 (λ d own. read_inside s l c.requires.log i d (subst (λ (q : LogPart). IsReadOf q i d) c.log_of-part.ensures.part own)) (omega arith)
    (c.attempts_follow_law.ensures s) old made c.note_call.new.tx (LogRead l i) c.reply_of.result (found c.in-Ok.value) 0 c.requires.callable.open_now
    (holds_looks (IsReadOf part i) 6 old made _ e.looks) (goes_looked s old made e.same) tt
    (λ touches. (c.log_calls_law.ensures s l c.log_of-part.ensures.part c.requires.log c.log_of-part.ensures.small).read (progress old) (progress made) i c.in-Ok.value (in_child old.state) touches
    (ap (λ a. a.writes) e.same) (waits_looked s old made e.same) e.value)
    c.reply_of.ensures c.in-Ok-note_call.ensures.ok

pub returns-in-Err : goal.returns-in-Err
returns-in-Err g c =
    let s = c.args.plan.now in let l = c.args.log in let i = c.args.i in let part = c.log_of-part.result in let e = c.in-Err.ensures in
    let old = c.args.tx.now in let made = c.read.new.tx in
    on_stopped g.P.Keys.KeyTest.passes s (the_log l) (IsReadOf part i) 6 6 (λ d own. read_inside s l c.requires.log i d (subst (λ (q : LogPart). IsReadOf q i d) c.log_of-part.ensures.part own)) (omega arith)
    old made c.in-Err.stop (holds_looks (IsReadOf part i) 6 old made _ e.looks) (goes_looked s old made e.same)

pub returns-in-Err-note_call : goal.returns-in-Err-note_call
returns-in-Err-note_call g c =
    let s = c.args.plan.now in let l = c.args.log in let i = c.args.i in let part = c.log_of-part.result in let e = c.in-Ok.ensures in
    let old = c.args.tx.now in let made = c.read.new.tx in
    on_refused g.P.Keys.KeyTest.passes s (the_log l) (IsReadOf part i) 6 6 (λ d own. read_inside s l c.requires.log i d (subst (λ (q : LogPart). IsReadOf q i d) c.log_of-part.ensures.part own)) (omega arith)
    old made c.note_call.new.tx (holds_looks (IsReadOf part i) 6 old made _ e.looks) (goes_looked s old made e.same) c.in-Err-note_call.ensures.stopped

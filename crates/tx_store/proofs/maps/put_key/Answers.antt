use Rattle.std.proofs.Common.{◌≡◌, ◌+◌, refl, arith}
use Rattle.serial_terms.specs.declared.call.Call.TheVariants.{MapPut}
use Rattle.serial_terms.specs.declared.call.Reply.TheVariants.{Nothing}
use Rattle.store_layout.specs.Shapes.{the_map}
use Rattle.store_parts.specs.Parts.{progress}
use Rattle.tx_core.specs.Facts.{holds_looks}
use Rattle.tx_core.specs.declared.stop.Stop.TheVariants.{Memory}
use Rattle.tx_store.specs.Calls.{in_child}
use Rattle.tx_store.proofs.MapCalls.{key_inside, some, looked_noted, looked_refused, looked_stopped}
use Rattle.tx_store.proofs.Telling.{on_call, on_refused, on_stopped, goes_stays, waits_stays}
use Rattle.tx_store.proofs.maps.put_key.Goals as goal

pub returns-in-Ok-note_call-clause-made : goal.returns-in-Ok-note_call-clause-made
returns-in-Ok-note_call-clause-made g c =
    let s = c.args.plan.now in let m = c.args.map in let part = c.map_of-part.result in let is = c.map_of-part.ensures.part in let at = c.args.position in
    let e = c.in-Ok.ensures in let old = c.args.tx.now in let made = c.put_at.new.tx in
    on_call g.P.Keys.KeyTest.passes s (the_map m) (λ d. d ≡ part.base + at) 0 0 (key_inside s m part is at c.requires.position) (omega arith)
    (c.attempts_follow_law.ensures s) old made c.note_call.new.tx (MapPut m c.args.key c.args.value) Nothing Nothing at c.requires.callable.open_now
    (holds_looks (λ d. d ≡ part.base + at) 0 old made _ e.looks) (goes_stays g.P.Keys.KeyTest.passes s old made e.stays.0) c.requires.name
    (λ touches. (c.map_calls_law.ensures s m is (some s m part is at c.requires.position)).put (progress old) (progress made) c.args.key at c.args.value (in_child old.state) touches
    (waits_stays g.P.Keys.KeyTest.passes s old made e.stays.0) c.requires.value e.map)
    refl c.in-Ok-note_call.ensures.ok

pub returns-in-Ok-note_call-clause-looks : goal.returns-in-Ok-note_call-clause-looks
returns-in-Ok-note_call-clause-looks g c =
    let s = c.args.plan.now in let m = c.args.map in let part = c.map_of-part.result in let is = c.map_of-part.ensures.part in let at = c.args.position in
    let e = c.in-Ok.ensures in let old = c.args.tx.now in let made = c.put_at.new.tx in
    looked_noted s m part is at 0 old made c.note_call.new.tx _ e.looks c.in-Ok-note_call.ensures.ok

pub returns-in-Err-note_call-clause-made : goal.returns-in-Err-note_call-clause-made
returns-in-Err-note_call-clause-made g c =
    let s = c.args.plan.now in let m = c.args.map in let part = c.map_of-part.result in let is = c.map_of-part.ensures.part in let at = c.args.position in
    let e = c.in-Ok.ensures in let old = c.args.tx.now in let made = c.put_at.new.tx in
    on_refused g.P.Keys.KeyTest.passes s (the_map m) (λ d. d ≡ part.base + at) 0 0 (key_inside s m part is at c.requires.position) (omega arith)
    old made c.note_call.new.tx (holds_looks (λ d. d ≡ part.base + at) 0 old made _ e.looks) (goes_stays g.P.Keys.KeyTest.passes s old made e.stays.0) c.in-Err-note_call.ensures.stopped

pub returns-in-Err-note_call-clause-looks : goal.returns-in-Err-note_call-clause-looks
returns-in-Err-note_call-clause-looks g c =
    let s = c.args.plan.now in let m = c.args.map in let part = c.map_of-part.result in let is = c.map_of-part.ensures.part in let at = c.args.position in
    let e = c.in-Ok.ensures in let old = c.args.tx.now in let made = c.put_at.new.tx in
    looked_refused s m part is at 0 old made c.note_call.new.tx e.looks c.in-Err-note_call.ensures.stopped

pub returns-in-Err-clause-made : goal.returns-in-Err-clause-made
returns-in-Err-clause-made g c =
    let s = c.args.plan.now in let m = c.args.map in let part = c.map_of-part.result in let is = c.map_of-part.ensures.part in let at = c.args.position in
    let e = c.in-Err.ensures in let old = c.args.tx.now in let made = c.put_at.new.tx in
    on_stopped g.P.Keys.KeyTest.passes s (the_map m) (λ d. d ≡ part.base + at) 0 0 (key_inside s m part is at c.requires.position) (omega arith)
    old made Memory (holds_looks (λ d. d ≡ part.base + at) 0 old made _ e.looks) (goes_stays g.P.Keys.KeyTest.passes s old made e.stays.0)

pub returns-in-Err-clause-looks : goal.returns-in-Err-clause-looks
returns-in-Err-clause-looks g c =
    let s = c.args.plan.now in let m = c.args.map in let part = c.map_of-part.result in let is = c.map_of-part.ensures.part in let at = c.args.position in
    let e = c.in-Err.ensures in let old = c.args.tx.now in let made = c.put_at.new.tx in
    looked_stopped s m part is at 0 old made Memory e.looks

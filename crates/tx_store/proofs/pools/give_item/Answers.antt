use Rattle.std.proofs.Common.{◌*◌, get_or, refl}
use Rattle.serial_terms.specs.declared.call.Call.TheVariants.{Give}
use Rattle.serial_terms.specs.declared.call.Reply.TheVariants.{Flag}
use Rattle.store_layout.specs.Shapes.{the_pool}
use Rattle.store_parts.specs.Parts.{progress}
use Rattle.tx_pool.specs.Pool.{IsSlot}
use Rattle.tx_store.specs.Calls.{in_child}
use Rattle.tx_store.proofs.PoolCalls.{inside, few, some}
use Rattle.tx_store.proofs.Telling.{on_call, on_refused, on_stopped, goes_stays, waits_stays}
use Rattle.tx_store.proofs.pools.give_item.Goals as goal

pub returns-in-Err : goal.returns-in-Err
returns-in-Err g c =
    let s = c.args.plan.now in let p = c.args.pool in let part = c.pool_of-part.result in let is = c.pool_of-part.ensures in
    on_stopped g.P.Keys.KeyTest.passes s (the_pool p) (IsSlot part) (6 * part.slots) (6 * get_or s.pools p 0) (inside s p part is) (few s p part is)
    c.args.tx.now c.put.new.tx c.in-Err.stop c.in-Err.ensures.holds (goes_stays g.P.Keys.KeyTest.passes s _ _ c.in-Err.ensures.stays)

pub returns-in-Ok-note_call : goal.returns-in-Ok-note_call
returns-in-Ok-note_call g c =
    let s = c.args.plan.now in let p = c.args.pool in let part = c.pool_of-part.result in let is = c.pool_of-part.ensures in
    let old = c.args.tx.now in let made = c.put.new.tx in let stays = c.in-Ok.ensures.stays in
    on_call g.P.Keys.KeyTest.passes s (the_pool p) (IsSlot part) (6 * part.slots) (6 * get_or s.pools p 0) (inside s p part is) (few s p part is)
    (c.attempts_follow_law.ensures s) old made c.note_call.new.tx (Give p c.args.value) (Flag c.in-Ok.done) (Flag c.in-Ok.done) 0 c.requires.callable.open_now c.in-Ok.ensures.holds
    (goes_stays g.P.Keys.KeyTest.passes s _ _ stays) tt
    (λ touches. (c.pool_calls_law.ensures s p is (some s p part is c.requires.pool c.requires.slots)).put (progress old) (progress made) c.args.value c.in-Ok.done (in_child old.state) touches
    (waits_stays g.P.Keys.KeyTest.passes s _ _ stays) c.in-Ok.ensures.explains)
    refl c.in-Ok-note_call.ensures.ok

pub returns-in-Err-note_call : goal.returns-in-Err-note_call
returns-in-Err-note_call g c =
    let s = c.args.plan.now in let p = c.args.pool in let part = c.pool_of-part.result in let is = c.pool_of-part.ensures in
    on_refused g.P.Keys.KeyTest.passes s (the_pool p) (IsSlot part) (6 * part.slots) (6 * get_or s.pools p 0) (inside s p part is) (few s p part is)
    c.args.tx.now c.put.new.tx c.note_call.new.tx c.in-Ok.ensures.holds (goes_stays g.P.Keys.KeyTest.passes s _ _ c.in-Ok.ensures.stays) c.in-Err-note_call.ensures.stopped

use Rattle.std.proofs.Common.{◌≡◌, ◌<◌, refl, sym, ap, ◌∙◌, arith}
use Rattle.tx_core.specs.Tx.{Attempt}
use Rattle.tx_pool.specs.Pool.{slot_at}
use Rattle.tx_pool.proofs.Walks.{walk_in}
use Rattle.tx_pool.proofs.Seeing.{seeing_start, seeing_more, seeing_ends, seeing_stops, read_adds, sees_no_more, sees_stop}
use Rattle.tx_pool.proofs.fill.observe_all.Goals as goal

pub loop-i-init : goal.loop-i-init
loop-i-init g c = seeing_start c.args.part.now c.args.from c.args.tx.now

pub read-requires-clause-cell : goal.read-requires-clause-cell
read-requires-clause-cell g c =
    let at : c.slot-cell.result ≡ slot_at c.args.part.now c.args.from c.loop-i.i = c.slot-cell.ensures c.args.from refl in
    let lt : c.loop-i.i < c.args.part.now.slots = omega (arith, c.loop-i-test.true) in
    let inside = walk_in c.args.part.now c.args.from c.loop-i.i lt in
    let table : c.loop-i.tx.table ≡ c.args.tx.now.table = ap (λ (a : Attempt _ _). a.table) c.loop-i.invariant.upto.on.sees.is in
    rw table (omega (arith, at, inside.1, c.requires.part.1))

pub returns-in-Err-clause-sees : goal.returns-in-Err-clause-sees
returns-in-Err-clause-sees g c =
    sees_no_more c.args.part.now c.args.from c.args.tx.now _ _ c.loop-i.tx c.read.new.self _ c.loop-i.invariant.upto.on
    (c.in-Err.ensures.stopped ∙ ap (λ st. record c.loop-i.tx { pass = c.read.new.self.pass; state = st }) (sym (ap (λ (a : Attempt _ _). a.state) c.in-Err.ensures.stopped))) c.in-Err.ensures.looks

pub returns-in-Err-clause-stopped : goal.returns-in-Err-clause-stopped
returns-in-Err-clause-stopped g c =
    sees_stop c.args.part.now c.args.from c.args.tx.now c.loop-i.i c.loop-i.tx c.read.new.self c.slot-cell.result c.in-Err.stop c.loop-i.invariant (c.slot-cell.ensures c.args.from refl) (omega (arith, c.loop-i-test.true)) c.in-Err.ensures.looks

pub returns-in-Err-clause-holds : goal.returns-in-Err-clause-holds
returns-in-Err-clause-holds g c =
    seeing_stops c.args.part.now c.args.from c.args.tx.now c.loop-i.i c.loop-i.tx c.read.new.self c.slot-cell.result c.in-Err.stop c.loop-i.invariant (c.slot-cell.ensures c.args.from refl) (omega (arith, c.loop-i-test.true)) c.in-Err.ensures.looks

pub loop-i-preserved : goal.loop-i-preserved
loop-i-preserved g c =
    let at : c.slot-cell.result ≡ slot_at c.args.part.now c.args.from c.loop-i.i = c.slot-cell.ensures c.args.from refl in
    let adds = read_adds c.loop-i.tx c.read.new.self c.slot-cell.result c.in-Ok.field-0 (λ y is. (c.in-Ok.ensures.own y is).1) (λ y none is. (c.in-Ok.ensures.seen_before y none is).1) c.in-Ok.ensures.observes in
    seeing_more c.args.part.now c.args.from c.args.tx.now c.loop-i.i c.loop-i.tx c.read.new.self c.slot-cell.result c.in-Ok.field-0 c.loop-i.invariant at (omega (arith, c.loop-i-test.true)) adds c.in-Ok.ensures.looks c.in-Ok.ensures.value

pub returns-clause-sees : goal.returns-clause-sees
returns-clause-sees g c = c.loop-i.invariant.upto.on

pub returns-clause-holds : goal.returns-clause-holds
returns-clause-holds g c = seeing_ends c.args.part.now c.args.from c.args.tx.now c.loop-i.i c.loop-i.tx (omega (arith, c.loop-i-test.false, c.loop-i.auto.i-end)) c.loop-i.invariant

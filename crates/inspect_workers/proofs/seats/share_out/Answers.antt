use Rattle.std.proofs.Common.{◌<◌, arith}
use Rattle.inspect_workers.specs.Seats.{callers_held}
use Rattle.inspect_workers.proofs.Sharing.{none_shared, one_shared}
use Rattle.inspect_workers.proofs.seats.share_out.Goals as goal

pub loop-alloc-init : goal.loop-alloc-init
loop-alloc-init g c = none_shared c.args.store.now c.args.pass c.requires.pass c.args.seats.now.items c.requires.seats c.requires.draws

pub loop-alloc-preserved-in-Ok : goal.loop-alloc-preserved-in-Ok
loop-alloc-preserved-in-Ok g c =
    let several : 1 < callers_held c.loop-alloc.pass = let n = c.callers_held.ensures.count in let t = c.loop-alloc-test.true in omega (arith, n, t) in
    one_shared c.args.store.now c.args.pass c.requires.pass c.loop-alloc.pass c.split.new.self c.in-Ok.own c.loop-alloc.seats.items
    c.callers_held-in-loop-alloc.result c.index_mut.result.now.gate c.loop-alloc.invariant
    several c.in-Ok.ensures.kept c.in-Ok.ensures.of c.in-Ok.ensures.new c.callers_held-in-loop-alloc.ensures.count

pub loop-alloc-preserved : goal.loop-alloc-preserved
loop-alloc-preserved g c =
    let several : 1 < callers_held c.loop-alloc.pass = let n = c.callers_held.ensures.count in let t = c.loop-alloc-test.true in omega (arith, n, t) in
    one_shared c.args.store.now c.args.pass c.requires.pass c.loop-alloc.pass c.split.new.self c.in-Ok.own c.loop-alloc.seats.items
    c.callers_held-in-loop-alloc.result c.index_mut.result.now.gate c.loop-alloc.invariant
    several c.in-Ok.ensures.kept c.in-Ok.ensures.of c.in-Ok.ensures.new c.callers_held-in-loop-alloc.ensures.count

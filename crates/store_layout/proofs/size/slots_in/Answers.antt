use Rattle.std.proofs.Common.{arith}
use Rattle.std.proofs.lemmas.List.{take_all}
use Rattle.store_layout.proofs.Lists.{slots-sum}
use Rattle.store_layout.proofs.size.slots_in.Goals as goal

pub returns : goal.returns
returns c =
    let all = take_all c.loop-pool.pool-index c.args.pools.now (omega arith) in
    let i = rw all at c.loop-pool.invariant in
    omega (arith, slots-sum c.args.pools.now)

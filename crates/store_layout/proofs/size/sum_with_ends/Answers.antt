use Rattle.std.proofs.Common.{arith}
use Rattle.store_layout.proofs.Lists.{ends-sum}
use Rattle.store_layout.proofs.size.sum_with_ends.Goals as goal

pub returns : goal.returns
returns c = omega (arith, ends-sum c.args.capacities.now)

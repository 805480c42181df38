use Rattle.std.proofs.Common.{take}
use Rattle.std.specs.List.{All}
use Rattle.store_layout.specs.Shapes.{IsPool}
use Rattle.store_layout.proofs.tests.are_pools.Given as goal

abbrev pub invariant-loop-pool : goal.invariant-loop-pool
invariant-loop-pool l = All IsPool (take l.pool-index l.pools)

use Rattle.std.proofs.Common.{◌≡◌, ◌++◌, take}
use Rattle.std.specs.List.{flat_map}
use Rattle.store_layout.specs.Opening.{opening_slots}
use Rattle.store_layout.proofs.opening.push_pools.Given as goal

abbrev pub invariant-loop-pool : goal.invariant-loop-pool
invariant-loop-pool l = l.words.items ≡ l.initial.words.items ++ flat_map opening_slots (take l.pool-index l.pools)

use Rattle.std.proofs.Common.{◌≡◌, take, map}
use Rattle.store_layout.proofs.arrange.slots.Given as goal

abbrev pub invariant-loop-pool : goal.invariant-loop-pool
invariant-loop-pool l = l.slots.items ≡ map (λ p. p.slots) (take l.pool-index l.pools)

use Rattle.std.proofs.Common.{◌≡◌, ◌-◌, ◌^◌, min, take}
use Rattle.std.specs.List.{sum_by}
use Rattle.store_layout.proofs.size.slots_in.Given as goal

abbrev pub invariant-loop-pool : goal.invariant-loop-pool
invariant-loop-pool l = l.total ≡ min (sum_by (λ p. p.slots) (take l.pool-index l.pools)) (2 ^ 64 - 1)

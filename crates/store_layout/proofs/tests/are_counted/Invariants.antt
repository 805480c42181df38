use Rattle.std.proofs.Common.{◌<◌, take}
use Rattle.std.specs.List.{All}
use Rattle.store_layout.proofs.tests.are_counted.Given as goal

abbrev pub invariant-loop-capacity : goal.invariant-loop-capacity
invariant-loop-capacity l = All (λ c. 0 < c) (take l.capacity-index l.capacities)

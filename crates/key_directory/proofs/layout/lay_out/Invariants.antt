use Rattle.std.proofs.Common.{◌≡◌, ◌+◌, sum, take}
use Rattle.key_directory.specs.Words.{laid_out}
use Rattle.key_directory.proofs.layout.lay_out.Given as goal

abbrev pub invariant-loop-capacity : goal.invariant-loop-capacity
invariant-loop-capacity l = (l.regions.items ≡ laid_out 1 (take l.capacity-index l.capacities)) × (l.words ≡ 1 + sum (take l.capacity-index l.capacities))

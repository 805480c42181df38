use Rattle.std.proofs.Common.{◌≡◌, length, All}
use Rattle.serial_terms.specs.Ranges.{IsKept}
use Rattle.store_benchmark.proofs.open.items.Given as goal

abbrev pub invariant-loop-item : goal.invariant-loop-item
invariant-loop-item l = (length l.items.items ≡ l.item) × All IsKept l.items.items

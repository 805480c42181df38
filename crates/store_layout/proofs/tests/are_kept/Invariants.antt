use Rattle.std.proofs.Common.{take}
use Rattle.std.specs.List.{All}
use Rattle.serial_terms.specs.Ranges.{IsKept}
use Rattle.store_layout.proofs.tests.are_kept.Given as goal

abbrev pub invariant-loop-item : goal.invariant-loop-item
invariant-loop-item l = All IsKept (take l.item-index l.items)

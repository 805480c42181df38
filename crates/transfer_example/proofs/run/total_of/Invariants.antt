use Rattle.std.proofs.Common.{◌≡◌}
use Rattle.tx_map.specs.Map.{map_of}
use Rattle.transfer_example.specs.Bank.{total}
use Rattle.transfer_example.proofs.run.total_of.Given as goal

abbrev pub invariant-loop-i : goal.invariant-loop-i
invariant-loop-i l = l.total ≡ total (map_of l.part l.contents.values) l.i

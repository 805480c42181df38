use Rattle.std.proofs.Common.{◌≡◌, ◌+◌, ◌≤◌, take}
use Rattle.attempt_lists.specs.Cells.{laid_over}
use Rattle.attempt_lists.proofs.write_set.put_all.Given as goal

abbrev pub invariant-loop-cell : goal.invariant-loop-cell
invariant-loop-cell l = (l.lower.entries ≡ laid_over l.initial.lower.entries (take l.cell-index l.upper)) × (l.initial.lower.reserved ≤ l.lower.reserved + l.cell-index)

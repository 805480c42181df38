use Rattle.std.proofs.Common.{subst}
use Rattle.attempt_lists.specs.Cells.{NoCellTwice}
use Rattle.attempt_lists.specs.Words.{last_gone}
use Rattle.attempt_lists.proofs.cell_list.CellList.pop.Goals as goal

-- no cell was in the list twice
pub returns-clause-gone : goal.returns-clause-gone
returns-clause-gone c = last_gone c.pop.new.self.items c.in_ok-last.last (subst NoCellTwice c.in_ok-last.ensures.items c.self.invariant.0)

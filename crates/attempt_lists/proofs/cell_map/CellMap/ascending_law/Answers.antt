use Rattle.std.proofs.Common.{ap, subst}
use Rattle.attempt_lists.specs.Cells.{Mapped, IsAscending}
use Rattle.attempt_lists.proofs.Order.{ascending-in_order}
use Rattle.attempt_lists.proofs.cell_map.CellMap.ascending_law.Goals as goal

pub returns : goal.returns
returns c = subst IsAscending (ap (λ (m : Mapped). m.entries) c.self.view_is) (ascending-in_order c.self.inside.list.entries)

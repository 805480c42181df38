use Rattle.std.proofs.Common.{ap, ◌∙◌}
use Rattle.attempt_lists.specs.Cells.{Mapped}
use Rattle.attempt_lists.proofs.Order.{in_order_ascending}
use Rattle.attempt_lists.proofs.cell_map.CellMap.sort.Goals as goal

-- what is in order stays so
pub returns-then-not-self-clause-entries : goal.returns-then-not-self-clause-entries
returns-then-not-self-clause-entries c = in_order_ascending _ c.sort.ensures.ascending ∙ c.sort.ensures.entries ∙ ap (λ (m : Mapped). m.entries) c.self.view_is

use Rattle.std.proofs.Common.{ap, sym, subst, ◌∙◌}
use Rattle.attempt_lists.specs.Cells.{Mapped, IsAscending}
use Rattle.attempt_lists.proofs.Order.{in_order_ascending, ascending-in_order}
use Rattle.attempt_lists.proofs.cell_map.CellMap.as_slice.Goals as goal

-- sorted cells are listed as they are
pub returns-clause-entries : goal.returns-clause-entries
returns-clause-entries c =
    let ascending = c.self.invariant (ap (λ (m : Mapped). m.sorted) c.self.view_is ∙ c.requires.sorted) in
    c.as_slice.ensures.entries ∙ sym (in_order_ascending _ ascending) ∙ ap (λ (m : Mapped). m.entries) c.self.view_is

pub returns-clause-ascending : goal.returns-clause-ascending
returns-clause-ascending c = subst IsAscending (ap (λ (m : Mapped). m.entries) c.self.view_is) (ascending-in_order c.self.inside.list.entries)

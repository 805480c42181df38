use Rattle.std.proofs.Common.{length, ap, sym, ◌∙◌}
use Rattle.attempt_lists.specs.Cells.{Mapped}
use Rattle.attempt_lists.proofs.Order.{length-in_order}
use Rattle.attempt_lists.proofs.cell_map.CellMap.unsorted.Goals as goal

pub returns-clause-len : goal.returns-clause-len
returns-clause-len c = ap length c.as_slice.ensures.entries ∙ sym (length-in_order _ c.as_slice.ensures.once) ∙ ap (λ (m : Mapped). length m.entries) c.self.view_is

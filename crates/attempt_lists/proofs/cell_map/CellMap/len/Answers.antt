use Rattle.std.proofs.Common.{length, ap, sym, ◌∙◌}
use Rattle.attempt_lists.specs.Cells.{Mapped}
use Rattle.attempt_lists.proofs.Order.{length-in_order}
use Rattle.attempt_lists.proofs.cell_map.CellMap.len.Goals as goal

pub returns : goal.returns
returns c = c.len.ensures ∙ sym (length-in_order _ c.once_law.ensures) ∙ ap (λ (m : Mapped). length m.entries) c.self.view_is

use Rattle.std.proofs.Common.{ap, sym, ◌∙◌}
use Rattle.attempt_lists.specs.Cells.{Mapped, word_at}
use Rattle.attempt_lists.proofs.Order.{word_at-in_order}
use Rattle.attempt_lists.proofs.cell_map.CellMap.get.Goals as goal

pub returns : goal.returns
returns c = c.get.ensures ∙ sym (word_at-in_order _ c.once_law.ensures c.args.cell) ∙ ap (λ (m : Mapped). word_at m.entries c.args.cell) c.self.view_is

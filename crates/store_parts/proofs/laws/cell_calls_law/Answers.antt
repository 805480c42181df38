use Rattle.store_parts.proofs.PlainCells.{cell_calls}
use Rattle.store_parts.proofs.laws.cell_calls_law.Goals as goal

pub returns : goal.returns
returns c = λ s k there. cell_calls c.words_are_cells_law.ensures c.parts_are_apart_law.ensures s k there

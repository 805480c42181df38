use Rattle.store_layout.proofs.Words.{words_are_cells}
use Rattle.store_layout.proofs.laws.words_are_cells_law.Goals as goal

pub returns : goal.returns
returns c = words_are_cells

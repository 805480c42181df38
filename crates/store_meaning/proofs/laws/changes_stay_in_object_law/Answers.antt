use Rattle.store_meaning.proofs.States.{changes_stay_in_object}
use Rattle.store_meaning.proofs.laws.changes_stay_in_object_law.Goals as goal

pub returns : goal.returns
returns c = changes_stay_in_object c.changes_stay_in_part_law.ensures c.words_are_cells_law.ensures

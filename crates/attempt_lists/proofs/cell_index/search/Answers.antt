use Rattle.attempt_lists.proofs.Places.{word_in_gap}
use Rattle.attempt_lists.proofs.cell_index.search.Goals as goal

-- a cell that has a gap has no word
pub returns-in-Err : goal.returns-in-Err
returns-in-Err c = word_in_gap _ _ _ c.in-Err.ensures.absent

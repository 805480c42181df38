use Rattle.std.proofs.Common.{rules}
use Rattle.std.proofs.lemmas.List.Sorted.{answers_always}
use Rattle.attempt_lists.proofs.Places.{searched}
use Rattle.attempt_lists.proofs.cell_index.find.Goals as goal

-- the closure gives an entry's cell
pub returns : goal.returns
returns c =
    let facts = c.binary_search_by_key.ensures in
    let by_cell = facts.position (λ e. e.0) (answers_always _ _ _ (λ f a r g called. search rules)) in
    let ends = searched _ c.requires.ascending c.args.cell _ facts.bound by_cell in
    record { found = ends.found; absent = ends.absent }

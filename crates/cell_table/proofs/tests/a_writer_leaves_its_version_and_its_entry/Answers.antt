use Rattle.std.proofs.Common.{ℕ, List, ap, length, ◌∙◌}
use Rattle.cell_table.specs.declared.view.NotedBook.{NotedBook}
use Rattle.cell_table.specs.declared.tests.AnyCells.{AnyCells}
use Rattle.cell_table.specs.Pass.{PassState}
use Rattle.cell_table.proofs.tests.a_writer_leaves_its_version_and_its_entry.Goals as goal

pub meet-contents-requires-clause-callers : goal.meet-contents-requires-clause-callers
meet-contents-requires-clause-callers g c = let count : List (NotedBook ℕ) → ℕ = λ bs. length bs in (
  ap count c.words-2.ensures.same.0 ∙ (c.write_nine.ensures.same.0 ∙ (ap count c.take-3.ensures.same.0 ∙ (ap (λ (z : PassState AnyCells ℕ). length z.books) c.reserve.ensures.same ∙ (ap count c.words.ensures.same.0 ∙ (ap count c.take-2.ensures.same.0 ∙ c.in_ok-table.ensures.first.0))))),
  ap count c.release.ensures.books ∙ (ap count c.take.ensures.same.0 ∙ c.in_ok-table.ensures.second.0),
  c.words-2.ensures.same.1 ∙ (c.write_nine.ensures.same.1 ∙ (c.take-3.ensures.same.1 ∙ (ap (λ (z : PassState AnyCells ℕ). z.room) c.reserve.ensures.same ∙ (c.words.ensures.same.1 ∙ (c.take-2.ensures.same.1 ∙ c.in_ok-table.ensures.first.1))))),
  c.words-2.ensures.same.2 ∙ (c.write_nine.ensures.same.2 ∙ (c.take-3.ensures.same.2 ∙ (ap (λ (z : PassState AnyCells ℕ). z.view.total) c.reserve.ensures.same ∙ (c.words.ensures.same.2 ∙ (c.take-2.ensures.same.2 ∙ c.in_ok-table.ensures.first.2))))),
)

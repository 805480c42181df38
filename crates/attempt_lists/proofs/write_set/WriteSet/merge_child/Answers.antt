use Rattle.std.proofs.Common.{ap, sym, ◌∙◌}
use Rattle.attempt_lists.specs.Cells.{laid_over}
use Rattle.attempt_lists.specs.Laid.{word_at-laid_over}
use Rattle.attempt_lists.proofs.Order.{laid_over_in_order, word_at-in_order}
use Rattle.attempt_lists.proofs.write_set.WriteSet.merge_child.Goals as goal

-- what is laid over the parent's writes may be in any order
pub returns-clause-parent : goal.returns-clause-parent
returns-clause-parent c =
    rw (sym c.self.view_is) (c.put_all.ensures.entries ∙ sym (laid_over_in_order c.self.inside.parent.entries c.unsorted.result.now) ∙ ap (laid_over c.self.inside.parent.entries) c.unsorted.ensures.entries)

-- the child's list is empty then, and what was written to a cell is in the parent's
pub returns-clause-written : goal.returns-clause-written
returns-clause-written c = λ cell.
    rw (← c.self.view_is, c.clear.ensures.entries, c.put_all.ensures.entries, ← c.unsorted.ensures.entries, word_at-in_order _ c.unsorted.ensures.once cell) (word_at-laid_over c.self.inside.parent.entries c.unsorted.result.now c.unsorted.ensures.once cell)

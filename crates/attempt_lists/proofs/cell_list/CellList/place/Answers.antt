use Rattle.attempt_lists.proofs.Index.{unpassed, placed}
use Rattle.attempt_lists.proofs.cell_list.CellList.place.Goals as goal

pub returns-then-passes : goal.returns-then-passes
returns-then-passes c = rw (← c.self.view_is, ← c.deref.ensures.value) (placed c.deref.result.now c.args.cell c.place.result (rw c.deref.ensures.value c.self.invariant.0) c.place.ensures)

pub returns-else-passes : goal.returns-else-passes
returns-else-passes c = rw (← c.self.view_is) (unpassed _ _ _ c.self.invariant.1 c.if-passes.ensures.1)

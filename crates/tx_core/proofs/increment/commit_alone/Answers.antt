use Rattle.std.proofs.Common.{◌≡◌, true, false, ap, sym, ◌∙◌}
use Rattle.cell_table.specs.Cells.{has}
use Rattle.cell_table.specs.Rule.{cells_of}
use Rattle.attempt_lists.specs.Cells.{cell_at}
use Rattle.tx_core.specs.Tx.{Attempt}
use Rattle.tx_core.specs.Facts.{grows_trans}
use Rattle.tx_core.proofs.LateLocks.{word_there}
use Rattle.tx_core.proofs.increment.commit_alone.Goals as goal

-- the first written cell is held
pub draw_and_check-requires-clause-holds : goal.draw_and_check-requires-clause-holds
draw_and_check-requires-clause-holds c = λ none.
    let first = cell_at c.args.tx.writes 0 in
    let same = ap (λ (a : Attempt _ _). a.writes) c.in-Ok.ensures.same in
    let held = c.in-Ok.ensures.all_held first (rw same (word_there c.args.tx.writes 0 c.requires.some_write)) in
    no (ap (λ held. has first (cells_of held)) (sym none) ∙ held)
  where
    no : false ≡ true → ⊥
    no e = cc

pub returns-clause-grows : goal.returns-clause-grows
returns-clause-grows c = grows_trans _ _ _ c.in-Ok.ensures.leaves.does.pass.grows (grows_trans _ _ _ c.draw_and_check.ensures.grows c.publish.ensures.grows)

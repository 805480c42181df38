use Rattle.std.proofs.Common.{◌≡◌, ◌<◌, [], ◌∷◌, length, true, false, ap, sym, ◌∙◌, arith}
use Rattle.std.proofs.lemmas.Bool.Decides.{nat_tests}
use Rattle.std.specs.Prelude.{IsSome}
use Rattle.cell_table.specs.Cells.{has}
use Rattle.cell_table.specs.Rule.{cells_of}
use Rattle.attempt_lists.specs.Cells.{Entries, word_at, cell_at}
use Rattle.tx_core.specs.Tx.{Attempt}
use Rattle.tx_nest.proofs.nest_tests.commit.Goals as goal

has_first : (ws : Entries) → 0 < length ws → IsSome (word_at ws (cell_at ws 0))
has_first [] lt = absurd (omega arith)
has_first (w ∷ ws) lt = grind (arith, nat_tests)

-- the first written cell is held
pub draw_and_check-requires-clause-holds : goal.draw_and_check-requires-clause-holds
draw_and_check-requires-clause-holds c = λ none.
    let first = cell_at c.args.tx.writes 0 in
    let same = ap (λ (a : Attempt _ _). a.writes) c.in-Ok.ensures.same in
    let held = c.in-Ok.ensures.all_held first (rw same (has_first c.args.tx.writes c.requires.some_write)) in
    nothing (ap (λ held. has first (cells_of held)) (sym none) ∙ held)
  where
    nothing : false ≡ true → ⊥
    nothing e = cc

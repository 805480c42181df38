use Rattle.std.proofs.Common.{◌≡◌, ℕ, ◌<◌, true, List, [], ◌∷◌, length, IsSome, ap, arith}
use Rattle.std.proofs.lemmas.Bool.Decides.{nat_tests}
use Rattle.cell_table.specs.Cells.{has}
use Rattle.cell_table.specs.Rule.{cells_of}
use Rattle.attempt_lists.specs.Cells.{Entries, cell_at, word_at}
use Rattle.tx_core.specs.Tx.{Attempt}
use Rattle.tx_pool.proofs.tests.expect_commit.Goals as goal

first_written : (ws : Entries) → 0 < length ws → IsSome (word_at ws (cell_at ws 0))
first_written [] lt = absurd (omega arith)
first_written (w ∷ ws) lt = grind (arith, nat_tests)

held_none : (held : List (ℕ × ℕ)) (c : ℕ) → has c (cells_of held) ≡ true → held ≡ [] → ⊥
held_none [] c here none = cc
held_none (t ∷ ts) c here none = cc

pub draw_and_check-requires-clause-holds : goal.draw_and_check-requires-clause-holds
draw_and_check-requires-clause-holds g c =
    let some : 0 < length c.lock_writes.new.self.writes = rw (ap (λ (a : Attempt _ _). a.writes) c.in-Ok.ensures.same) c.requires.writes in
    held_none _ _ (c.in-Ok.ensures.all_held (cell_at c.lock_writes.new.self.writes 0) (first_written c.lock_writes.new.self.writes some))

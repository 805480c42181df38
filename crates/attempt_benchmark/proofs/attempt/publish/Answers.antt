use Rattle.std.proofs.Common.{rules, ◌≡◌, ◌<◌, ℕ, List, [], ◌∷◌, length, true, nat_eq, IsSome, subst, refl}
use Rattle.std.proofs.lemmas.Map.Entries.{lookup_head}
use Rattle.std.proofs.lemmas.Cmp.{nat_eq_equiv}
use Rattle.std.proofs.lemmas.Bool.{false≢true}
use Rattle.cell_table.specs.Cells.{has}
use Rattle.cell_table.specs.Rule.{cells_of}
use Rattle.attempt_lists.specs.Cells.{Entries, word_at}
use Rattle.attempt_benchmark.proofs.attempt.publish.Goals as goal

-- a written cell is held
some_held : (writes : Entries) (held : List (ℕ × ℕ)) → 0 < length writes → ((c : ℕ) → IsSome (word_at writes c) → has c (cells_of held) ≡ true) → held ≡ [] → ⊥
some_held [] held some all none = search rules
some_held (w ∷ ws) held some all none =
    let there : IsSome (word_at (w ∷ ws) w.0) = rw (lookup_head (nat_eq w.0) w ws (nat_eq_equiv.refl w.0)) refl in
    false≢true (subst (λ (cells : List (ℕ × ℕ)). has w.0 (cells_of cells) ≡ true) none (all w.0 there))

pub draw_and_check-requires-clause-holds : goal.draw_and_check-requires-clause-holds
draw_and_check-requires-clause-holds c = some_held c.args.tx.writes c.args.tx.pass.view.held c.requires.some_write c.requires.all_held

-- What was observed of a cell, by the cell.
use Rattle.std.proofs.Common.{◌≡◌, ℕ, suc, ◌<◌, [], ◌∷◌, length, Some, sym, subst, arith}
use Rattle.std.proofs.lemmas.Bool.Decides.{nat_tests}
use mathlib.Core.Logic.{dite}
use native.Mathlib.Decide.{ℕ_discrete}
use Rattle.cell_table.specs.declared.view.View.{View}
use Rattle.cell_table.specs.Steps.{Observes}
use Rattle.attempt_lists.specs.Cells.{Entries, word_at, word_of, cell_at}

-- a cell that has a word stands in the list with it
pub entry_of : (es : Entries) (cell x : ℕ) → word_at es cell ≡ Some x → (i : ℕ) × (i < length es) × (cell_at es i ≡ cell) × (word_of es i ≡ x)
entry_of [] cell x is = absurd (cc)
entry_of (e ∷ es) cell x is = dite (ℕ_discrete cell e.0)
    (λ same. (0, omega arith, sym same, grind (arith, nat_tests, is, same)))
    (λ apart. let rest = entry_of es cell x (grind (arith, nat_tests, is, apart)) in (suc rest.0, omega (arith, rest.1), rest.2, rest.3))

-- where each observation stands at a place, the word of an observed cell does
pub observes_by : {M D : Type 0} (v : View M D) (place : ℕ) (es : Entries) → ((i : ℕ) → i < length es → Observes v (cell_at es i) (word_of es i) place) → (cell x : ℕ) → word_at es cell ≡ Some x → Observes v cell x place
observes_by v place es each cell x is =
    let at = entry_of es cell x is in
    subst (λ (y : ℕ). Observes v cell y place) at.3 (subst (λ (d : ℕ). Observes v d (word_of es at.0) place) at.2 (each at.0 at.1))

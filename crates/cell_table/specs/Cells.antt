-- Cells as a list of values, and what a record does to them.
use Rattle.std.specs.Prelude.{◌≡◌, ℕ, ◌<◌, Bool, true, false, cond, eqb, List, [], ◌∷◌, length, slice_index, slice_set}
use Rattle.cell_table.specs.Sorted.{Each}

-- the cells after the writes, each a cell and a value
abbrev pub after : List ℕ → List (ℕ × ℕ) → List ℕ
after cells [] = cells
after cells (w ∷ ws) = after (slice_set cells w.0 w.1) ws

abbrev pub AllHold : List ℕ → List (ℕ × ℕ) → Type 0
AllHold cells os = Each (λ o. (o.0 < length cells) × (slice_index cells o.0 ≡ o.1)) os

-- whether the writes write the cell, and what they leave in it where it had x
abbrev pub writes_to : List (ℕ × ℕ) → ℕ → Bool
writes_to [] c = false
writes_to (w ∷ ws) c = cond (eqb w.0 c) true (writes_to ws c)

abbrev pub written : ℕ → List (ℕ × ℕ) → ℕ → ℕ
written x [] c = x
written x (w ∷ ws) c = written (cond (eqb w.0 c) w.1 x) ws c

-- the writes leave x in the cell
abbrev pub Leaves : List (ℕ × ℕ) → ℕ → ℕ → Type 0
Leaves ws c x = (writes_to ws c ≡ true) × ((y : ℕ) → written y ws c ≡ x)

abbrev pub has : ℕ → List ℕ → Bool
has c [] = false
has c (d ∷ ds) = cond (eqb d c) true (has c ds)

-- no cell stands twice
abbrev pub IsWrittenOnce : List (ℕ × ℕ) → Type 0
IsWrittenOnce [] = Unit {0}
IsWrittenOnce (w ∷ ws) = (writes_to ws w.0 ≡ false) × IsWrittenOnce ws

-- What holds of every call that touches one structure alone.
use Rattle.std.proofs.Common.{◌≡◌, ℕ, ◌+◌, ◌-◌, ◌^◌, ◌<◌, ◌≤◌, List, length, get_or, ◌∙◌, sym, inl, inr, arith}
use Rattle.std.specs.List.{All}
use Rattle.std.proofs.lemmas.Bool.{cases_lt}
use Rattle.std.proofs.lemmas.List.{get_or_past}
use Rattle.std.proofs.lemmas.List.Elements.{All-get_or, All-take, All-drop}
use Rattle.cell_table.specs.Cells.{after}
use Rattle.store_layout.specs.Laws.{PartsAreApart}
use Rattle.store_layout.specs.Shapes.{Shape, Object, first_of, size_of}
use Rattle.store_layout.specs.States.{AreOf, words_of, IsFormed}
use Rattle.store_meaning.specs.Follows.{Progress, IsPartOf, ChangesOnly}
use Rattle.store_parts.specs.Parts.{Touches}
use Rattle.tx_core.specs.Words.{length_after}

-- a structure's cells are there
pub fits : PartsAreApart → (s : Shape) (o : Object) → 0 < size_of s o → (cells : List ℕ) → IsFormed s cells → first_of s o + size_of s o ≤ length cells
fits apart s o some cells f = omega (arith, apart.there s o (first_of s o + size_of s o - 1) (omega arith, omega arith), f.sized)

-- its words are below 2^64
pub words_below : (s : Shape) (o : Object) (cells : List ℕ) → IsFormed s cells → All (λ w. w < 2 ^ 64) (words_of s o cells)
words_below s o cells f = All-take (λ w. w < 2 ^ 64) (size_of s o) _ (All-drop (λ w. w < 2 ^ 64) (first_of s o) cells f.words)

pub word_below : (ws : List ℕ) (i : ℕ) → All (λ w. w < 2 ^ 64) ws → get_or ws i 0 < 2 ^ 64
word_below ws i below = elim (cases_lt i (length ws)) [
  | inl lt ↦ All-get_or (λ w. w < 2 ^ 64) ws i 0 lt below
  | inr ge ↦ omega (arith, get_or_past ws i 0 ge)
]

pub changes_only : (s : Shape) (o : Object) (old new : Progress) → Touches s o old new → ((p : ℕ) → (IsPartOf s o p → ⊥) → new.waiting p ≡ old.waiting p)
    → (cells : List ℕ) → All (λ w. w < 2 ^ 64) (words_of s o (after cells new.writes)) → AreOf o (words_of s o (after cells new.writes))
    → ChangesOnly s o (after cells old.writes) (after cells new.writes) old.waiting new.waiting
changes_only s o old new touches waits cells below are = record {
  sized = length_after new.writes cells ∙ sym (length_after old.writes cells);
  outside = touches.others cells;
  words = below;
  are = are;
  waits = waits;
}

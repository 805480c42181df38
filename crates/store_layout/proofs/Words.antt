-- The words of structures.
use Rattle.std.proofs.Common.{◌≡◌, ℕ, ◌+◌, ◌-◌, ◌<◌, ◌≤◌, List, length, drop, get_or, ◌⊎◌, ◌∙◌, inl, inr, arith}
use Rattle.std.proofs.lemmas.Bool.{cases_lt}
use Rattle.std.proofs.lemmas.List.{get_or-take, get_or-drop, length-take-le, length-drop}
use Rattle.store_layout.specs.Shapes.{Shape, Object, cells_of, first_of, size_of}
use Rattle.store_layout.specs.States.{words_of}
use Rattle.store_layout.specs.Laws.{WordsAreCells}
use Rattle.store_layout.proofs.Parts.{parts_are_apart}

module _ (s : Shape) where
  sized : (o : Object) (cells : List ℕ) → length cells ≡ cells_of s → length (words_of s o cells) ≡ size_of s o
  sized o cells e = length-take-le (size_of s o) (drop (first_of s o) cells) (fits (cases_lt 0 (size_of s o)))
    where
      fits : (0 < size_of s o) ⊎ (size_of s o ≤ 0) → size_of s o ≤ length (drop (first_of s o) cells)
      fits (inl some) = omega (arith, length-drop (first_of s o) cells, parts_are_apart.there s o (first_of s o + size_of s o - 1) (omega arith, omega arith))
      fits (inr none) = omega arith

  words : (o : Object) (cells : List ℕ) (i : ℕ) → i < size_of s o → get_or (words_of s o cells) i 0 ≡ get_or cells (first_of s o + i) 0
  words o cells i h = get_or-take (size_of s o) (drop (first_of s o) cells) i 0 h ∙ get_or-drop (first_of s o) cells i 0

pub words_are_cells : WordsAreCells
words_are_cells = record { sized = sized; words = words }

-- Writes at two levels: those of an attempt, and over them those of its open child.
use Rattle.std.specs.Prelude.{ℕ, Bool, Option}
use Rattle.std.specs.Option.{option_or}
use Rattle.attempt_lists.specs.Cells.{Entries, word_at, laid_over}

-- the writes of each level in ascending order of cells, for how many more of the lower level there is room that is promised, and whether the lower level is kept in that order
pub record Levels : Type 0 where
  pub parent : Entries
  pub child : Entries
  pub reserved : ℕ
  pub sorted : Bool

-- the word that is written to the cell: that of the child where it wrote the cell, else that of the parent
abbrev pub written : Levels → ℕ → Option ℕ
written levels cell = option_or (word_at levels.child cell) (word_at levels.parent cell)

-- the writes of both levels, in ascending order of cells
abbrev pub merged : Levels → Entries
merged levels = laid_over levels.parent levels.child

-- Lists of cells, each with a word: what a cell has, and the two orders in which such lists are kept.
use Rattle.std.specs.Prelude.{◌≡◌, ℕ, ◌<◌, ◌≤◌, ◌≢◌, Bool, List, [], length, nat_eq, slice_index_or, Option, fold}
use Rattle.std.specs.Ordering.{nat_cmp}
use Rattle.std.specs.Map.{lookup}
use Rattle.std.specs.BTreeMap.{insert_entry}

-- each entry is a cell and its word
abbrev pub Entries : Type 0
Entries = List (ℕ × ℕ)

-- the word of the cell: that of its first entry
abbrev pub word_at : Entries → ℕ → Option ℕ
word_at entries cell = lookup (nat_eq cell) entries

-- the cell of the entry at index i
abbrev pub cell_at : Entries → ℕ → ℕ
cell_at entries i = (slice_index_or entries i (0, 0)).0

-- the word of the entry at index i
abbrev pub word_of : Entries → ℕ → ℕ
word_of entries i = (slice_index_or entries i (0, 0)).1

-- no two entries are of one cell
abbrev pub NoCellTwice : Entries → Type 0
NoCellTwice entries = (i j : ℕ) → i < j → j < length entries → cell_at entries i ≢ cell_at entries j

-- each cell is below those after it
abbrev pub IsAscending : Entries → Type 0
IsAscending entries = (i j : ℕ) → i < j → j < length entries → cell_at entries i < cell_at entries j

-- the entries in ascending order of cells, with the word at the cell: an entry of the cell takes the word, and a new one goes to its place
abbrev pub put : Entries → ℕ → ℕ → Entries
put entries cell word = insert_entry nat_cmp entries cell word

-- the lower entries with each of the upper ones put over them
abbrev pub laid_over : Entries → Entries → Entries
laid_over lower upper = fold (λ entries e. put entries e.0 e.1) lower upper

-- the entries in ascending order of cells; of two entries of one cell the last counts
abbrev pub in_order : Entries → Entries
in_order entries = laid_over [] entries

-- entries, and for how many more there is room that is promised
pub record Listed : Type 0 where
  pub entries : Entries
  pub reserved : ℕ

-- entries in ascending order of cells, for how many more there is room that is promised, and whether they are kept in that order
pub record Mapped : Type 0 where
  pub entries : Entries
  pub reserved : ℕ
  pub sorted : Bool

-- the entry at the place is of the cell
pub record IsPlaceOf (entries : Entries) (cell place : ℕ) : Type 0 where
  pub in_range : place < length entries
  pub of_cell : cell_at entries place ≡ cell

-- the cells below the place are smaller than the cell, and those from it on are greater
pub record IsGapFor (entries : Entries) (cell place : ℕ) : Type 0 where
  pub in_range : place ≤ length entries
  pub smaller_before : (i : ℕ) → i < place → cell_at entries i < cell
  pub greater_after : (i : ℕ) → place ≤ i → i < length entries → cell < cell_at entries i

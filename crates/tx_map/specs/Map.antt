-- The map that cells stand for, and what calls make of it.
use Rattle.std.specs.Prelude.{◌≡◌, ℕ, zero, suc, ◌+◌, ◌<◌, ◌≤◌, ◌⊎◌, List, length, slice_index, nat_lt, Option, Some, None, if◌then◌else◌}
use Rattle.std.specs.Option.{option_or}
use Rattle.serial_terms.specs.Counts.{with_at}
use Rattle.tx_map.specs.declared.part.MapPart.{MapPart}

-- what a word says of the key: 0 that it is absent, else its value plus 1
abbrev pub value_in : ℕ → Option ℕ
value_in zero = None
value_in (suc value) = Some value

module _ (part : MapPart) where
  -- the part's cells are there
  abbrev pub IsFormed : List ℕ → Type 0
  IsFormed cells = part.base + part.capacity ≤ length cells

  -- the value at each position. There is none beyond the capacity
  abbrev pub map_of : List ℕ → ℕ → Option ℕ
  map_of cells position = if nat_lt position part.capacity then value_in (slice_index cells (part.base + position)) else None

  -- the cell is one of the part's
  abbrev pub IsCellOf : ℕ → Type 0
  IsCellOf cell = (part.base ≤ cell) × (cell < part.base + part.capacity)

  -- the cell isn't one of the part's
  abbrev pub IsOutside : ℕ → Type 0
  IsOutside cell = (cell < part.base) ⊎ (part.base + part.capacity ≤ cell)

  -- the lists are of one length, and the part's cells have the same words in both
  pub record SameCells (a b : List ℕ) : Type 0 where
    pub sized : length a ≡ length b
    pub words : (cell : ℕ) → IsCellOf cell → slice_index a cell ≡ slice_index b cell

  -- ---- what calls make of the map, between the cells before and after

  -- this was found at the position, and nothing changed
  abbrev pub Finds : ℕ → Option ℕ → List ℕ → List ℕ → Type 0
  Finds position found before after = (found ≡ map_of before position) × (after ≡ before)

  -- the position has this value from now on, or none, and the map is else as before
  abbrev pub Puts : ℕ → Option ℕ → List ℕ → List ℕ → Type 0
  Puts position value before after = IsFormed after × (map_of after ≡ with_at (map_of before) position value)

  -- this was found at the position, which has from now on the value that was there, else the new one
  abbrev pub Fills : ℕ → ℕ → Option ℕ → List ℕ → List ℕ → Type 0
  Fills position value there before after = (there ≡ map_of before position) × Puts position (option_or there (Some value)) before after

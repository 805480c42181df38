-- What an attempt says of lists of cells, of which it has seen only some.
use Rattle.std.specs.Prelude.{◌≡◌, ℕ, ◌<◌, List, length, slice_index}
use Rattle.cell_table.specs.Cells.{AllHold, after}
use Rattle.tx_core.specs.Tx.{Attempt}

module _ {M D : Type 0} where
  -- Where all that the attempt observed holds, the cell has x once the attempt's writes are laid over the cells
  abbrev pub Shows : Attempt M D → ℕ → ℕ → Type 0
  Shows a cell x = (cells : List ℕ) → AllHold cells a.observations → cell < length cells → slice_index (after cells a.writes) cell ≡ x

  -- What a call between two moments of an attempt says of a part of the cells. Take any cells in which all holds that was observed by its end.
  -- Where they are well formed with the earlier writes laid over them, P holds of that list and of the cells with the later writes laid over.
  abbrev pub Explains : (List ℕ → Type 0) → Attempt M D → Attempt M D → (List ℕ → List ℕ → Type 0) → Type 0
  Explains IsFormed old new P = (cells : List ℕ) → AllHold cells new.observations → IsFormed (after cells old.writes) → P (after cells old.writes) (after cells new.writes)

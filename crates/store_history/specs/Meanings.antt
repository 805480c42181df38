-- What the cells of a store mean, and what explains a record.
use Rattle.std.specs.Prelude.{ℕ, List}
use Rattle.serial_terms.specs.declared.call.Done.{Done}
use Rattle.serial_terms.specs.Serial.{State}
use Rattle.serial_terms.specs.Histories.{Runs}
use Rattle.cell_table.specs.Cells.{AllHold, after}

-- `formed` says which lists of cells stand for a state, and `state_of` for which one
module _ (formed : List ℕ → Type 0) (state_of : List ℕ → State) where
  -- wherever the observations hold in well-formed cells, the calls run from their state to that of the cells after the writes,
  -- which are well formed
  abbrev pub Explains : List (ℕ × ℕ) → List (ℕ × ℕ) → List Done → Type 0
  Explains observations writes dones = (cells : List ℕ) → formed cells → AllHold cells observations
      → formed (after cells writes) × Runs (state_of cells) dones (state_of (after cells writes))

  -- the cells are well formed, and their state is lawful
  abbrev pub IsLawful : (State → Type 0) → List ℕ → Type 0
  IsLawful lawful_state cells = formed cells × lawful_state (state_of cells)

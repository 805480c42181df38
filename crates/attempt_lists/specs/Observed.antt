-- What an attempt observed.
use Rattle.std.specs.Prelude.{◌≡◌, ℕ, ◌<◌, List, length, slice_index}
use Rattle.attempt_lists.specs.Cells.{Entries, cell_at, word_of}
use Rattle.attempt_lists.specs.declared.read_set.Observation.{Observation}

-- the cells with their values in the order in which they were observed, beside them the versions, and for how many more there is room that is promised
pub record Observed : Type 0 where
  pub observations : Entries
  pub versions : List ℕ
  pub reserved : ℕ

-- the observation at place i is o
pub record IsObservationAt (observed : Observed) (i : ℕ) (o : Observation) : Type 0 where
  pub in_range : i < length observed.observations
  pub cell : cell_at observed.observations i ≡ o.cell
  pub value : word_of observed.observations i ≡ o.value
  pub version : slice_index observed.versions i ≡ o.version

-- An attempt as contracts see it.
use Rattle.std.specs.Prelude.{◌≡◌, ℕ, ◌-◌, ◌<◌, ◌≤◌, Bool, true, false, List, [], ◌∷◌, ◌++◌, length, slice_index, is_some, Option, None, All}
use Rattle.std.specs.Map.{keys_of}
use Rattle.cell_table.specs.Cells.{has}
use Rattle.cell_table.specs.Sorted.{Among}
use Rattle.cell_table.specs.Rule.{cells_of}
use Rattle.cell_table.specs.Steps.{IsUndecided, Reads}
use Rattle.cell_table.specs.declared.view.Stage.TheVariants.{Open}
use Rattle.cell_table.specs.Pass.{TableState, PassState, IsPassOf}
use Rattle.attempt_lists.specs.Cells.{Entries, Listed, word_at, word_of, cell_at}
use Rattle.attempt_lists.specs.Observed as lists
use Rattle.attempt_lists.specs.Parts.{Waiting}
use Rattle.tx_core.specs.Children.{Marked, held_of}
use Rattle.tx_core.specs.Seen.{StandsAt, IsSeen}
use Rattle.tx_core.specs.declared.spare.Spare.{Spare}
use Rattle.tx_core.specs.declared.stop.TxState.{TxState}

pub record Attempt (M D : Type 0) : Type 0 where
  pub table : TableState M
  pub pass : PassState M D
  pub state : TxState
  pub version : ℕ
  -- cells and values, in the order in which they were observed, and beside them the cells' versions
  pub observations : Entries
  pub versions : List ℕ
  -- cells and values, in ascending order of cells, those of an open child laid over its parent's
  pub writes : Entries
  pub notes : List D
  -- what it adds to parts of the structures when it commits, and how many places are kept for that
  pub additions : List Waiting
  pub spare : Spare
  -- a call of the commit was made
  pub committing : Bool
  -- what its open child goes back to
  pub mark : Option Marked

module _ {M D : Type 0} where
  -- What is true of every attempt: among others, that each observation stands in the pass's view at the attempt's version, or is of a newer version of a held cell
  pub record IsAttempt (table : TableState M) (pass : PassState M D) (version : ℕ) (reads : lists.Observed) (writes : Entries) (held : Listed) (committing : Bool) : Type 0 where
    pub of : IsPassOf table pass
    pub begun : (pass.seen ≤ version) × (version ≤ pass.view.known)
    pub observed : (i : ℕ) → i < length reads.observations → IsSeen pass.view version (cell_at reads.observations i) (word_of reads.observations i) (slice_index reads.versions i)
    pub written : All (λ c. c < length table.opening) (keys_of writes)
    -- the pass holds the cells of the list, which are in the order in which they were locked
    pub listed : pass.view.held ≡ held_of held.entries
    pub holds : (c : ℕ) → has c (cells_of pass.view.held) ≡ is_some (word_at held.entries c)
    pub in_table : All (λ c. c < length table.opening) (keys_of held.entries)
    pub sized : length reads.versions ≡ length reads.observations
    -- a held cell was observed or written
    pub met : (c : ℕ) → word_at reads.observations c ≡ None → word_at writes c ≡ None → has c (cells_of pass.view.held) ≡ false
    -- an observed cell that is held still has the version that was observed
    pub pinned : (i : ℕ) → i < length reads.observations → has (cell_at reads.observations i) (cells_of pass.view.held) ≡ true → Among (cell_at reads.observations i, slice_index reads.versions i) pass.view.held
    pub undecided : IsUndecided pass.view.stage
    pub undrawn : pass.view.held ≡ [] → pass.view.stage ≡ Open
    -- before the commit nothing is drawn, and no observation is of a newer version
    pub nothing_drawn : committing ≡ false → pass.view.stage ≡ Open
    pub early : committing ≡ false → (i : ℕ) → i < length reads.observations → slice_index reads.versions i ≤ version
    -- room for the record
    pub reserved : 0 < pass.reserved

  -- one more observation: the cell's value, which stands at the attempt's version
  pub record Observed (a b : Attempt M D) (cell x : ℕ) : Type 0 where
    pub version : ℕ
    pub is : b ≡ record a { pass = b.pass; observations = a.observations ++ (cell, x) ∷ []; versions = a.versions ++ version ∷ [] }
    pub stands : StandsAt b.pass.view a.version cell x version

  -- One more observation, by a lock of the commit: the newest value of the cell, which is held from now on
  pub record ObservedLate (a b : Attempt M D) (cell x : ℕ) : Type 0 where
    pub version : ℕ
    pub is : b ≡ record a { pass = b.pass; observations = a.observations ++ (cell, x) ∷ []; versions = a.versions ++ version ∷ []; spare = record a.spare { locks = a.spare.locks - 1; observations = a.spare.observations - 1 }; committing = true }
    pub reads : Reads b.pass.view cell version x

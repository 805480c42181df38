-- What is kept for the additions of an attempt.
use Rattle.std.specs.Prelude.{◌≡◌, ℕ, ◌+◌, ◌*◌, ◌<◌, ◌≤◌, ◌^◌, Bool, false, List, [], ◌∷◌, length, nat_eq}
use Rattle.std.specs.List.{IsDistinct}
use Rattle.cell_table.specs.Pass.{PassState}
use Rattle.attempt_lists.specs.Cells.{Listed}
use Rattle.attempt_lists.specs.Levels.{Levels}
use Rattle.attempt_lists.specs.Observed as lists
use Rattle.attempt_lists.specs.Parts.{Waiting, waiting_of, marked_of}
use Rattle.tx_core.specs.declared.spare.Spare.{Spare}

-- how many items these parts have together
abbrev pub count_in : (ℕ → List ℕ) → List ℕ → ℕ
count_in items [] = 0
count_in items (part ∷ parts) = length (items part) + count_in items parts

-- n places of each kind are kept
abbrev pub HasSpare : Spare → ℕ → Type 0
HasSpare spare n = (n ≤ spare.locks) × (n ≤ spare.observations) × (n ≤ spare.writes)

-- for each item of any parts there are two places of each kind
abbrev pub HasTwoFor : Spare → (ℕ → List ℕ) → Type 0
HasTwoFor spare items = (parts : List ℕ) → IsDistinct nat_eq parts → HasSpare spare (2 * count_in items parts)

-- for each addition that waits
abbrev pub HasTwoEach : Spare → List Waiting → Type 0
HasTwoEach spare additions = HasTwoFor spare (waiting_of additions)

-- the places for locks that are promised: one for each write of both levels, and those that are kept for additions
abbrev pub promised : Levels → ℕ → ℕ
promised writes kept = length writes.parent + length writes.child + kept

-- n more places of each kind
abbrev pub more_spare : ℕ → Spare → Spare
more_spare n spare = record { locks = spare.locks + n; observations = spare.observations + n; writes = spare.writes + n }

-- The room that the lists of an attempt have
pub record IsProvided {M D : Type 0} (pass : PassState M D) (reads : lists.Observed) (writes : Levels) (held : Listed) (additions : List Waiting) (spare : Spare) (committing : Bool) : Type 0 where
  pub locks : held.reserved ≤ pass.places
  pub spare_locks : spare.locks ≤ held.reserved
  pub spare_observations : spare.observations ≤ reads.reserved
  pub spare_writes : spare.writes ≤ writes.reserved
  pub few : (spare.locks < 2 ^ 32) × (spare.observations < 2 ^ 32) × (spare.writes < 2 ^ 32)
  -- before the commit there is room for a lock of each cell that is written, beside what is kept for the additions
  pub room : committing ≡ false → promised writes spare.locks ≤ held.reserved
  pub twice : committing ≡ false → HasTwoEach spare additions
  -- what waited at the mark may come back
  pub marked : committing ≡ false → HasTwoFor spare (marked_of additions)

-- What the calls of a map ask, and what they leave of the attempt and of the pass of the directory.
use Rattle.std.specs.Prelude.{◌≡◌, ℕ, ◌+◌, ◌*◌, ◌<◌, ◌≤◌, ◌↔◌, Bool, true, false, [], ◌∷◌, ◌++◌, length, unwrap_or, Option, Some, None, IsSome, Result, Ok, Err}
use Rattle.key_directory.specs.Words.{capacity_of, OnlyBelow}
use Rattle.key_directory.specs.Directory.{DirectoryView, PassView, Claimed, claim_of, position_in, steps_since, AreAllOthers}
use Rattle.attempt_lists.specs.Cells.{put}
use Rattle.tx_core.specs.declared.stop.Stop.{Stop as AttemptStop}
use Rattle.tx_core.specs.declared.stop.Stop.TheVariants.{Memory}
use Rattle.tx_core.specs.Tx.{Attempt}
use Rattle.tx_core.specs.Calls.{MayCall, MayObserve}
use Rattle.tx_map.specs.declared.part.MapPart.{MapPart}
use Rattle.tx_map.specs.Map.{IsFormed}
use Rattle.tx_map.specs.declared.part.MapStop.{MapStop}
use Rattle.tx_map.specs.declared.part.MapStop.TheVariants.{Stop, KeysFull}

module _ {A : Type 0} where
  -- the stop of the attempt, if there is one
  abbrev pub stop_in : Result A MapStop → Option AttemptStop
  stop_in (Ok answer) = None
  stop_in (Err (Stop stop)) = Some stop
  stop_in (Err (KeysFull capacity)) = None

  -- the call was refused because the region is full
  abbrev pub IsFull : Result A MapStop → Type 0
  IsFull (Ok answer) = ⊥
  IsFull (Err (Stop stop)) = ⊥
  IsFull (Err (KeysFull capacity)) = Unit {0}

  -- where it was refused so, P holds of the capacity that it names
  abbrev pub IfFull : Result A MapStop → (ℕ → Type 0) → Type 0
  IfFull (Ok answer) P = Unit {0}
  IfFull (Err (Stop stop)) P = Unit {0}
  IfFull (Err (KeysFull capacity)) P = P capacity

  -- where the region isn't full, P holds
  abbrev pub UnlessFull : Result A MapStop → Type 0 → Type 0
  UnlessFull (Ok answer) P = P
  UnlessFull (Err (Stop stop)) P = P
  UnlessFull (Err (KeysFull capacity)) P = Unit {0}

-- the key was absent
abbrev pub found_none : {E : Type 0} → Result (Option ℕ) E → Bool
found_none (Ok None) = true
found_none (Ok (Some there)) = false
found_none (Err stop) = false

module _ (part : MapPart) where
  -- the directory has the map's region, and as many positions in it as the map has cells
  abbrev pub IsRegionOf : DirectoryView → Type 0
  IsRegionOf directory = (part.region < length directory.capacities) × (capacity_of directory.capacities part.region ≡ part.capacity)

  -- the pass has a position for the key
  abbrev pub HasKey : PassView → ℕ → Type 0
  HasKey keys key = IsSome (position_in keys.claims part.region key)

  -- which position that is, and which cell
  abbrev pub position_of : PassView → ℕ → ℕ
  position_of keys key = unwrap_or (position_in keys.claims part.region key) 0

  abbrev pub cell_of : PassView → ℕ → ℕ
  cell_of keys key = part.base + position_of keys key

  -- the key has a position of the region from now on
  pub record Claims (key : ℕ) (old new : PassView) : Type 0 where
    pub has : HasKey new key
    pub inside : position_of new key < part.capacity
    pub claims : new.claims ≡ old.claims ++ claim_of part.region key (position_of new key) ∷ []

  -- What a call with the key leaves of the pass of the directory
  pub record ClaimsKey {A : Type 0} (passes : ℕ → ℕ → Type 0) (key : ℕ) (old new : PassView) (result : Result A MapStop) : Type 0 where
    -- it has the callers that it had, and each key the position that it had
    pub pass : new ≡ record old { claims = new.claims; trail = new.trail }
    pub stays : (k : ℕ) → HasKey old k → HasKey new k × (position_of new k ≡ position_of old k)
    pub only : (k position : ℕ) → Claimed new.claims part.region k position → position ≡ position_of new k
    pub trail : new.trail ≡ old.trail ++ steps_since old new
    pub steps : length (steps_since old new) ≤ 2 * part.capacity
    pub claimed : UnlessFull result (Claims key old new)
    -- KeysFull comes exactly where this call found another key at each position
    pub full : IsFull result ↔ AreAllOthers old.directory.capacities (steps_since old new) part.region key
    pub refused : IfFull result (λ capacity. (capacity ≡ part.capacity) × (new.claims ≡ old.claims))
    -- and never where only keys below the capacity may have a position, which then is the key's own number
    pub own_number : OnlyBelow passes part.capacity → (IsFull result → ⊥) × UnlessFull result (position_of new key ≡ key)

  -- What each call of the map asks of the attempt, the directory and its pass
  pub record MayAsk {M D : Type 0} (tx : Attempt M D) (directory : DirectoryView) (keys : PassView) : Type 0 where
    pub attempt : MayCall tx
    -- the part's cells are cells of the table
    pub cells : IsFormed part tx.table.opening
    pub region : IsRegionOf directory
    pub pass : keys.directory ≡ directory

module _ {M D : Type 0} where
  -- it wrote the word in the cell
  abbrev pub Writes : ℕ → ℕ → Attempt M D → Attempt M D → Type 0
  Writes cell word old new = new ≡ record old { pass = new.pass; writes = put old.writes cell word }

  -- it was stopped
  abbrev pub IsStopped : Attempt M D → Attempt M D → Type 0
  IsStopped old new = new ≡ record old { pass = new.pass; state = new.state }

  -- it may have observed the cell, and then P holds of what it was and is
  abbrev pub LooksThen : ℕ → (Attempt M D → Attempt M D → Type 0) → Attempt M D → Attempt M D → Type 0
  LooksThen cell P old new = (looked : Attempt M D) × MayObserve old looked cell × P looked new

  -- it may have observed the cell, and wrote the word where the key was absent
  abbrev pub FilledBy : ℕ → ℕ → Option ℕ → Attempt M D → Attempt M D → Type 0
  FilledBy cell word (Some there) old new = MayObserve old new cell
  FilledBy cell word None old new = LooksThen cell (Writes cell word) old new

  -- ---- what becomes of the attempt, by the answer. KeysFull leaves it as it was

  abbrev pub LooksBy : {A : Type 0} → ℕ → Attempt M D → Attempt M D → Result A MapStop → Type 0
  LooksBy cell old new (Ok answer) = MayObserve old new cell
  LooksBy cell old new (Err (Stop stop)) = IsStopped old new
  LooksBy cell old new (Err (KeysFull capacity)) = new ≡ old

  -- want of memory alone stops it
  abbrev pub WritesBy : {A : Type 0} → ℕ → ℕ → Attempt M D → Attempt M D → Result A MapStop → Type 0
  WritesBy cell word old new (Ok answer) = Writes cell word old new
  WritesBy cell word old new (Err (Stop stop)) = (stop ≡ Memory) × IsStopped old new
  WritesBy cell word old new (Err (KeysFull capacity)) = new ≡ old

  abbrev pub FillsBy : ℕ → ℕ → Attempt M D → Attempt M D → Result (Option ℕ) MapStop → Type 0
  FillsBy cell word old new (Ok there) = FilledBy cell word there old new
  FillsBy cell word old new (Err (Stop stop)) = LooksThen cell IsStopped old new
  FillsBy cell word old new (Err (KeysFull capacity)) = new ≡ old

-- Sequences of values in cells, as a log or a queue: what a call makes of one, and what the placing of its additions at the commit says.
use Rattle.std.specs.Prelude.{◌≡◌, ◌≢◌, ℕ, ◌+◌, ◌-◌, ◌*◌, ◌<◌, ◌≤◌, true, List, [], ◌∷◌, ◌++◌, ◌⊎◌, false, length, slice_index, Some, IsSome}
use Rattle.std.specs.Option.{option_or}
use Rattle.cell_table.specs.Cells.{has}
use Rattle.cell_table.specs.Rule.{cells_of}
use Rattle.cell_table.specs.declared.view.Event.{Event}
use Rattle.cell_table.specs.declared.view.Event.TheVariants.{ClockLoaded}
use Rattle.cell_table.specs.Steps.{Observes}
use Rattle.cell_table.specs.Pass.{PassState, IsHeld, trail_of}
use Rattle.attempt_lists.specs.Cells.{word_at, word_of, cell_at}
use Rattle.tx_core.specs.Tx.{Attempt}
use Rattle.tx_core.specs.Parts.{Explains}
use Rattle.tx_core.specs.Causes.{FoundTwice, GrewBy}
use Rattle.tx_core.specs.declared.stop.Stop.{Stop}
use Rattle.tx_core.specs.declared.resolve_end.ResolveEnd.{ResolveEnd}
use Rattle.tx_core.specs.declared.resolve_end.ResolveEnd.TheVariants as ends
use Rattle.tx_core.specs.Calls.{stopped_from, StepsAt, CausedIn, UsesAtMost, KeepsOthers, HoldsWrites, IsFoundIn, IsUnseen, waiting}

-- A sequence in cells: the word of its end says how many items there are, and each item has a cell
pub record CellSequence : Type 0 where
  -- the number under which additions wait
  pub part : ℕ
  pub end : ℕ
  -- how many items there may be
  pub capacity : ℕ
  -- how many there are, by the word of the end. With n more the word is n more
  pub length_of : ℕ → ℕ
  -- the cell of the item at a place, the first one at 0, by the word of the end
  pub cell_of : ℕ → ℕ → ℕ
  -- the word of an item with this value
  pub stored : ℕ → ℕ

-- the cell of the k-th addition, behind the items that are there by this word of the end
abbrev pub place_of : CellSequence → ℕ → ℕ → ℕ
place_of s word k = s.cell_of word (s.length_of word + k)

-- the cell in which the next item would stand
abbrev pub next_of : CellSequence → ℕ → ℕ
next_of s word = s.cell_of word (s.length_of word)

-- the cell is for one of n additions
abbrev pub IsAddition : CellSequence → ℕ → ℕ → ℕ → Type 0
IsAddition s word n c = (k : ℕ) × (k < n) × (c ≡ place_of s word k)

abbrev pub IsEndOrAddition : CellSequence → ℕ → ℕ → ℕ → Type 0
IsEndOrAddition s word n c = (c ≡ s.end) ⊎ IsAddition s word n c

-- ---- the values before a call and after it

-- the value was added
abbrev pub Appends : ℕ → List ℕ → List ℕ → Type 0
Appends value before after = after ≡ before ++ value ∷ []

-- n is the number of values
abbrev pub HasLength : ℕ → List ℕ → List ℕ → Type 0
HasLength n before after = (n ≡ length before) × (after ≡ before)

-- they have the length n with the additions, which is at most the capacity
abbrev pub Settles : ℕ → List ℕ → List ℕ → Type 0
Settles capacity before after = (after ≡ before) × (length after ≤ capacity)

-- with the additions there are n of them, and nothing was placed
abbrev pub Exceeds : ℕ → List ℕ → List ℕ → Type 0
Exceeds n before after = (length before ≡ n) × (after ≡ before)

-- ---- attempts

module _ {M D : Type 0} where
  -- at most n cells more are held, each by at most three steps, and there were no other steps
  pub record LocksUpTo (n : ℕ) (p q : PassState M D) : Type 0 where
    pub least : length p.view.held ≤ length q.view.held
    pub most : length q.view.held ≤ length p.view.held + n
    pub steps : GrewBy (3 * (length q.view.held - length p.view.held)) (trail_of p) (trail_of q)

  -- the pass made three steps for each cell that came to be held, and at most n others
  pub record LocksAnd (n : ℕ) (p q : PassState M D) : Type 0 where
    pub least : length p.view.held ≤ length q.view.held
    pub steps : GrewBy (3 * (length q.view.held - length p.view.held) + n) (trail_of p) (trail_of q)

  -- What a call makes of the sequence, as the attempt has it: the values in the cells, and behind them its own additions.
  -- In any cells in which all holds that the attempt observed, and which are well formed with its earlier writes laid over them,
  -- they are with its later writes, too, and P holds of the sequence before the call and after it.
  abbrev pub Makes : (List ℕ → Type 0) → (List ℕ → List ℕ) → ℕ → Attempt M D → Attempt M D → (List ℕ → List ℕ → Type 0) → Type 0
  Makes IsFormed values part old new P = Explains IsFormed old new (λ before after. IsFormed after × P (values before ++ waiting part old) (values after ++ waiting part new))

  -- A stop at a cell with P that wasn't held before, with its cause in the steps of this call. Where a cell that wasn't observed
  -- before is newer, two versions of it were found.
  pub record IsStoppedAt (P : ℕ → Type 0) (old new : Attempt M D) (stop : Stop) : Type 0 where
    pub state : new.state ≡ stopped_from old.state
    pub found : IsFoundIn P stop
    pub cause : CausedIn old new stop
    pub twice : IsUnseen old stop → FoundTwice (length (trail_of old.pass)) (trail_of new.pass) stop
    pub free : IsFoundIn (λ c. has c (cells_of old.pass.view.held) ≡ false) stop
    -- beside its locks it takes no more steps than a look at one cell or at all that was observed
    pub few : LocksAnd (2 + length new.observations) old.pass new.pass

  module _ (s : CellSequence) where
    -- One value came into a cell, which is written and held, and the attempt goes on
    pub record IsPlaced (cell value : ℕ) (old new : Attempt M D) : Type 0 where
      pub state : new.state ≡ old.state
      pub written : word_at new.writes cell ≡ Some (s.stored value)
      pub held : IsHeld new.pass cell
      pub writes_held : HoldsWrites old → HoldsWrites new
      pub locks : LocksUpTo 1 old.pass new.pass

    -- the word of the end that was found under its lock
    abbrev pub FoundEnd : Attempt M D → Attempt M D → ℕ → Type 0
    FoundEnd old new word = option_or (word_at old.writes s.end) (word_at new.observations s.end) ≡ Some word

    -- the cell is the end, or one of the additions comes into it
    abbrev pub IsPlace : Attempt M D → Attempt M D → ℕ → Type 0
    IsPlace old new c = (c ≡ s.end) ⊎ ((word k : ℕ) × FoundEnd old new word × (k < length (waiting s.part old)) × (c ≡ place_of s word k))

    -- Each addition has its cell, and the end the number of all items: these cells are written and held
    pub record IsExtended (old new : Attempt M D) : Type 0 where
      pub word : ℕ
      pub found : FoundEnd old new word
      pub within : s.length_of word + length (waiting s.part old) ≤ s.capacity
      pub written : word_at new.writes s.end ≡ Some (word + length (waiting s.part old))
      pub held : IsHeld new.pass s.end
      pub items : (k : ℕ) → k < length (waiting s.part old) → (word_at new.writes (place_of s word k) ≡ Some (s.stored (slice_index (waiting s.part old) k))) × IsHeld new.pass (place_of s word k)

    -- The attempt goes on, and nothing waits. Of the cells the end and those of the additions alone came to be held, at most m
    pub record IsSettledBy (m : ℕ) (old new : Attempt M D) : Type 0 where
      pub state : new.state ≡ old.state
      pub emptied : waiting s.part new ≡ []
      pub extended : waiting s.part old ≢ [] → IsExtended old new
      pub writes_held : HoldsWrites old → HoldsWrites new
      pub locks : LocksUpTo m old.pass new.pass

    abbrev pub IsSettled : Attempt M D → Attempt M D → Type 0
    IsSettled old new = IsSettledBy (1 + length (waiting s.part old)) old new

    -- a stop at one of these cells or at one that was observed before
    abbrev pub IsStopped : Attempt M D → Attempt M D → Stop → Type 0
    IsStopped old new stop = IsStoppedAt (λ c. IsPlace old new c ⊎ IsSome (word_at old.observations c)) old new stop

    -- With the n items that are there the additions are more than the capacity, at the place that is known: the clock had it
    -- in this call, and all that was observed stands there. The attempt goes on, and nothing is placed.
    pub record IsFull (Exceeds : ℕ → Type 0) (old new : Attempt M D) (n more : ℕ) : Type 0 where
      pub word : ℕ
      pub found : FoundEnd old new word
      pub length_there : n ≡ s.length_of word
      pub adding : more ≡ length (waiting s.part old)
      pub above : s.capacity < n + more
      pub exceeds : Exceeds (n + more)
      pub late : old.version ≤ new.pass.view.known
      pub loaded : (first next : List Event) × (trail_of new.pass ≡ trail_of old.pass ++ first ++ ClockLoaded new.pass.view.known ∷ next)
      pub stands : (i : ℕ) → i < length new.observations → Observes new.pass.view (cell_at new.observations i) (word_of new.observations i) new.pass.view.known
      pub few : LocksAnd (1 + length new.observations) old.pass new.pass
      pub same : new ≡ record old { pass = new.pass; observations = new.observations; versions = new.versions; spare = new.spare; committing = true }

    abbrev pub IsRefused : (ℕ → Type 0) → Attempt M D → Attempt M D → ResolveEnd → Type 0
    IsRefused Exceeds old new (ends.Stop stop) = IsStopped old new stop
    IsRefused Exceeds old new (ends.Full part n more) = (part ≡ s.part) × IsFull Exceeds old new n more

    -- What is left of the attempt: it touches the end and the places of its additions alone, and uses no more than the room
    -- that was kept for these additions
    pub record Placing (old new : Attempt M D) : Type 0 where
      pub is : new ≡ record old { pass = new.pass; state = new.state; observations = new.observations; versions = new.versions; writes = new.writes; additions = new.additions; spare = new.spare; committing = new.committing }
      pub does : StepsAt (IsPlace old new) (4 + 3 * length (waiting s.part old) + length new.observations) old new
      pub others : KeepsOthers s.part old.additions new.additions
      pub used : UsesAtMost (2 * length (waiting s.part old)) (2 * length (waiting s.part old)) old.spare new.spare

-- the part is full, and no stop came
abbrev pub IsFullEnd : ResolveEnd → Type 0
IsFullEnd (ends.Stop stop) = ⊥
IsFullEnd (ends.Full part n more) = Unit {0}

-- How a commit on a store ends.
use Rattle.std.specs.Prelude.{◌≡◌, ◌↔◌, ℕ, ◌+◌, ◌-◌, ◌*◌, ◌<◌, ◌≤◌, ◌⊎◌, true, false, List, ◌∷◌, ◌++◌, length, if◌then◌else◌}
use Rattle.cell_table.specs.Cells.{AllHold}
use Rattle.cell_table.specs.Sorted.{Each}
use Rattle.cell_table.specs.Rule.{callers_of}
use Rattle.cell_table.specs.Steps.{IsIdle, Grows, Observes}
use Rattle.cell_table.specs.Pass.{PassState, IsPassOf, IsSole, note, trail_of}
use Rattle.cell_table.specs.declared.view.Event.{Event}
use Rattle.cell_table.specs.declared.view.Event.TheVariants.{ClockLoaded}
use Rattle.attempt_lists.specs.Cells.{Entries}
use Rattle.serial_terms.specs.declared.sight.SightEnd.{SightEnd}
use Rattle.serial_terms.specs.declared.sight.SightEnd.TheVariants as sights
use Rattle.serial_terms.specs.Histories.{Runs}
use Rattle.serial_terms.specs.Renaming.{NamedDone, by_name}
use Rattle.serial_terms.specs.Serial.{State, Sequence}
use Rattle.serial_terms.specs.Sights.{EndsAs, part_of}
use Rattle.store_history.specs.Meanings.{Explains}
use Rattle.store_layout.specs.Shapes.{Shape}
use Rattle.store_layout.specs.States.{state_in, IsFormed}
use Rattle.store_meaning.specs.declared.meaning.StoreMeaning.{StoreMeaning}
use Rattle.tx_core.specs.Causes.{FoundTwice, CausedSince, IsFound, GrewBy}
use Rattle.tx_core.specs.Calls.{NothingWaits, HoldsWrites, IsUnseen, IsDrawn, waiting}
use Rattle.tx_core.specs.declared.resolve_end.ResolveEnd.{ResolveEnd}
use Rattle.tx_core.specs.declared.resolve_end.ResolveEnd.TheVariants as resolves
use Rattle.tx_core.specs.declared.stop.Stop.{Stop}
use Rattle.tx_core.specs.declared.stop.Stop.TheVariants as stops
use Rattle.tx_core.specs.Tx.{Attempt}
use Rattle.tx_store.specs.declared.commit.CommitEnd.{CommitEnd}
use Rattle.tx_store.specs.declared.commit.CommitEnd.TheVariants as ends
use Rattle.tx_store.specs.declared.commit.Receipt.{Receipt}
use Rattle.tx_store.specs.Known.{Vouches}
use Rattle.tx_store.specs.Resolves.{ObservesHeld}
use Rattle.tx_store.specs.Stores.{PassView, TxView, IsPassOfStore}

-- how many steps a commit takes at most that ends with so many observations and so many held cells
abbrev pub commit_steps : ℕ → ℕ → ℕ
commit_steps observed held = observed + 5 * held + 2

-- the part has no more values than it may have
abbrev pub IsWithin : Sequence → Type 0
IsWithin part = length part.items ≤ part.capacity

module _ {M D : Type 0} where
  -- it writes a cell, or a value waits for a queue or a log
  abbrev pub IsWriter : Attempt M D → Type 0
  IsWriter a = (0 < length a.writes) ⊎ (NothingWaits a → ⊥)

  -- The pass comes back from an attempt, holds no cell, and knows what it knew
  pub record Returns (a : Attempt M D) (p : PassState M D) : Type 0 where
    pub of : IsPassOf a.table p
    pub idle : IsIdle p.view
    pub room : p.room ≡ a.pass.room
    pub grows : Grows a.pass.view p.view
    pub longer : (more : List Event) × (trail_of p ≡ trail_of a.pass ++ more)

  -- What the attempt had come to when its cells were given back: each cell that it observed since is held, and so is each that it writes.
  -- And how many steps the whole commit took
  pub record Reaches (a last : Attempt M D) (p : PassState M D) : Type 0 where
    pub same : last ≡ record a { pass = last.pass; observations = last.observations; versions = last.versions; writes = last.writes; additions = last.additions; spare = last.spare; committing = last.committing }
    pub observes : ObservesHeld a last
    pub writes_held : HoldsWrites last
    pub grows : Grows a.pass.view last.pass.view × Grows last.pass.view p.view
    pub steps : GrewBy (commit_steps (length last.observations) (length last.pass.view.held)) (trail_of a.pass) (trail_of p)

  -- A cell was held or newer, with the cause in this call. Of a newer cell that the attempt hadn't observed two versions were found
  pub record IsStoppedBy (a : Attempt M D) (p : PassState M D) (stop : Stop) : Type 0 where
    pub cause : CausedSince (callers_of a.pass.view.books) a.version (length (trail_of a.pass)) (trail_of p) stop
    pub twice : IsUnseen a stop → FoundTwice (length (trail_of a.pass)) (trail_of p) stop
    pub draws : a.pass.view.draws ≤ p.view.draws + 1

abbrev pub IsForCapacity : CommitEnd → Type 0
IsForCapacity (ends.Held cell owner) = ⊥
IsForCapacity (ends.Newer cell found) = ⊥
IsForCapacity (ends.Full part values adding) = Unit {0}

module _ {M : Type 0} (s : Shape) (a : Attempt M NamedDone) (p : PassState M NamedDone) where
  -- The calls stand as one record in the acting caller's book: a reader's at the attempt's version, a writer's above it
  pub record Commits (receipt : Receipt) : Type 0 where
    pub last : Attempt M NamedDone
    pub reaches : Reaches a last p
    pub books : p.books ≡ note receipt.place receipt.writer (record { observations = last.observations; writes = last.writes; dones = a.notes }) a.pass.books
    pub seen : p.seen ≡ receipt.place
    pub writer : (receipt.writer ≡ true) ↔ IsWriter a
    pub since : a.pass.seen ≤ a.version
    pub at_version : receipt.writer ≡ false → receipt.place ≡ a.version
    pub above : receipt.writer ≡ true → a.version < receipt.place
    pub draws : p.view.draws ≡ a.pass.view.draws - (if receipt.writer then 1 else 0)
    -- wherever what was observed holds, the calls run from the state of the cells to that after the writes
    pub leads : Explains (IsFormed s) (state_in s) last.observations last.writes (by_name a.notes)

  -- At this place, of which the clock was loaded in this call, the part has so many values after the calls, which with what is
  -- added are more than its capacity. Each part before it is within its own
  pub record IsFullAt (place part values adding : ℕ) : Type 0 where
    pub adds : adding ≡ length (waiting part a)
    pub some : 0 < adding
    pub late : a.version ≤ place
    pub known : place ≤ p.view.known
    pub loaded : (first next : List Event) × (trail_of p ≡ trail_of a.pass ++ first ++ ClockLoaded place ∷ next)
    pub observations : Entries
    pub stand : Each (λ o. (o.0 < length p.view.opening) × Observes p.view o.0 o.1 place) observations
    pub exceeds : (cells : List ℕ) → IsFormed s cells → AllHold cells observations
        → (end : State) × Runs (state_in s cells) (by_name a.notes) end × EndsAs (length s.queues) end (sights.Full part values adding)
        × ((q : ℕ) → q < part → IsWithin (part_of (length s.queues) end q))
    pub draws : p.view.draws ≡ a.pass.view.draws

  -- why it was refused, and at which place its calls were seen
  abbrev pub HasCause : ℕ → CommitEnd → Type 0
  HasCause place (ends.Held cell owner) = (place ≡ a.version) × IsStoppedBy a p (stops.Held cell owner)
  HasCause place (ends.Newer cell found) = (place ≡ a.version) × IsStoppedBy a p (stops.Newer cell found)
  HasCause place (ends.Full part values adding) = IsFullAt place part values adding

  -- The books are as they were. A reader is never refused, and a sole pass by Full alone
  pub record Refuses (end : CommitEnd) : Type 0 where
    pub writer : IsWriter a
    -- what it had come to by then, and how many steps the whole commit took
    pub last : Attempt M NamedDone
    pub observed : (more : Entries) × (last.observations ≡ a.observations ++ more)
    pub steps : GrewBy (commit_steps (length last.observations) (length last.pass.view.held)) (trail_of a.pass) (trail_of p)
    pub books : p.books ≡ a.pass.books
    pub seen : p.seen ≡ a.version
    pub place : ℕ
    pub cause : HasCause place end
    pub sole : IsSole a.pass → IsForCapacity end

-- ---- before the cells are given back

-- the stop of a call of the commit, which takes no memory, as its end
abbrev pub stop_end : Stop → CommitEnd
stop_end (stops.Held cell owner) = ends.Held cell owner
stop_end (stops.Newer cell found) = ends.Newer cell found
stop_end stops.Memory = ends.Held 0 0

abbrev pub resolve_end : ResolveEnd → CommitEnd
resolve_end (resolves.Stop stop) = stop_end stop
resolve_end (resolves.Full part values adding) = ends.Full part values adding

abbrev pub IsFoundEnd : ResolveEnd → Type 0
IsFoundEnd (resolves.Stop stop) = IsFound stop
IsFoundEnd (resolves.Full part values adding) = Unit {0}

module _ {M : Type 0} (s : Shape) (a b : Attempt M NamedDone) where
  -- The attempt may become a record at this place, just before which all stands that it observed
  pub record IsReady (place : ℕ) : Type 0 where
    pub same : b ≡ record a { pass = b.pass; observations = b.observations; versions = b.versions; writes = b.writes; additions = b.additions; spare = b.spare; committing = b.committing }
    pub pass : b.pass ≡ record a.pass { view = b.pass.view; places = b.pass.places }
    pub grows : Grows a.pass.view b.pass.view
    pub drawn : IsDrawn b place
    pub above : a.version < place
    pub draws : b.pass.view.draws ≡ a.pass.view.draws - 1
    pub observes : ObservesHeld a b
    pub writes_held : HoldsWrites b
    pub resolved : NothingWaits b
    pub some : 0 < length b.writes
    pub leads : Explains (IsFormed s) (state_in s) b.observations b.writes (by_name a.notes)
    pub steps : GrewBy (3 * length b.pass.view.held + 1 + length b.observations) (trail_of a.pass) (trail_of b.pass)

  -- It may not
  pub record IsGivenUp (end : CommitEnd) : Type 0 where
    pub table : b.table ≡ a.table
    pub version : b.version ≡ a.version
    pub pass : b.pass ≡ record a.pass { view = b.pass.view; places = b.pass.places }
    pub grows : Grows a.pass.view b.pass.view
    pub observed : (more : Entries) × (b.observations ≡ a.observations ++ more)
    pub steps : GrewBy (3 * length b.pass.view.held + 2 + length b.observations) (trail_of a.pass) (trail_of b.pass)
    pub place : ℕ
    pub cause : HasCause s a b.pass place end
    pub sole : IsSole a.pass → IsForCapacity end

abbrev pub sight_of : CommitEnd → SightEnd
sight_of (ends.Held cell owner) = sights.Refused
sight_of (ends.Newer cell found) = sights.Refused
sight_of (ends.Full part values adding) = sights.Full part values adding

module _ {P K : Type 0} where
  -- the attempt came to a record
  pub record IsCommitted (a : TxView (StoreMeaning P K)) (p : PassView (StoreMeaning P K)) (receipt : Receipt) : Type 0 where
    pub of : IsPassOfStore a.store p
    pub keys : p.keys ≡ a.keys
    pub returns : Returns a.attempt p.pass
    pub commits : Commits a.store.table.meaning.plan a.attempt p.pass receipt

  module _ (lawful_state : P → State → Type 0) where
    -- the pass vouches for it that the attempt's calls were seen at this place, and ended so
    abbrev pub SeesCalls : TxView (StoreMeaning P K) → PassView (StoreMeaning P K) → ℕ → SightEnd → Type 0
    SeesCalls a p place end = (caller after : ℕ) → Vouches lawful_state a.store.table.meaning p (record { caller = caller; after = after; place = place; end = end; dones = a.attempt.notes })

    -- it was refused and aborted
    pub record IsRefused (a : TxView (StoreMeaning P K)) (p : PassView (StoreMeaning P K)) (end : CommitEnd) : Type 0 where
      pub of : IsPassOfStore a.store p
      pub keys : p.keys ≡ a.keys
      pub returns : Returns a.attempt p.pass
      pub refuses : Refuses a.store.table.meaning.plan a.attempt p.pass end
      pub sees : SeesCalls a p refuses.place (sight_of end)

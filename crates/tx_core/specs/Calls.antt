-- Which calls of an attempt may follow, what the attempt knows, and what a call leaves of it.
use Rattle.std.specs.Prelude.{◌≡◌, ◌≢◌, ℕ, ◌<◌, ◌≤◌, ◌+◌, ◌-◌, ◌⊎◌, Bool, true, false, List, [], ◌++◌, length, take, slice_index, Option, Some, None, IsSome, Result, Ok, Err}
use Rattle.std.specs.Option.{option_or}
use Rattle.cell_table.specs.Cells.{has, after}
use Rattle.cell_table.specs.Sorted.{Each, Among, insert_by}
use Rattle.cell_table.specs.Rule.{cells_of, callers_of}
use Rattle.cell_table.specs.Steps.{Grows, Observes, cell_key}
use Rattle.cell_table.specs.declared.view.Stage.TheVariants.{Drawn}
use Rattle.cell_table.specs.Pass.{PassState, IsHeld, IsSole, trail_of}
use Rattle.attempt_lists.specs.Cells.{Entries, word_at, cell_at, word_of}
use Rattle.attempt_lists.specs.Parts.{Waiting, waiting_of, marked_of}
use Rattle.tx_core.specs.declared.spare.Spare.{Spare}
use Rattle.tx_core.specs.declared.stop.Stop.{Stop}
use Rattle.tx_core.specs.declared.stop.Stop.TheVariants.{Held, Newer, Memory}
use Rattle.tx_core.specs.declared.stop.TxState.{TxState}
use Rattle.tx_core.specs.declared.stop.TxState.TheVariants.{Running, Child, ChildStopped, Stopped}
use Rattle.tx_core.specs.Causes.{CausedSince, IsFound, GrewBy, begun_of}
use Rattle.tx_core.specs.Children.{Marked}
use Rattle.tx_core.specs.Seen.{Releases}
use Rattle.tx_core.specs.Tx.{Attempt, Observed}

-- ---- how an attempt stands

-- its calls may follow: it runs, or its open child does
abbrev pub is_open : TxState → Bool
is_open Running = true
is_open Child = true
is_open ChildStopped = false
is_open Stopped = false

abbrev pub IsOpen : TxState → Type 0
IsOpen state = is_open state ≡ true

-- what a stop leaves of the state
abbrev pub stopped_from : TxState → TxState
stopped_from Running = Stopped
stopped_from Child = ChildStopped
stopped_from ChildStopped = ChildStopped
stopped_from Stopped = Stopped

-- what a stop that spares the attempt leaves of it: want of memory alone stops
abbrev pub spared_from : TxState → Stop → TxState
spared_from state (Held cell owner) = state
spared_from state (Newer cell found) = state
spared_from state Memory = stopped_from state

-- ---- the stop of a call

abbrev pub stop_in : {A : Type 0} → Result A Stop → Option Stop
stop_in (Ok answer) = None
stop_in (Err stop) = Some stop

-- the only error is want of memory
abbrev pub memory_in : {A E : Type 0} → Result A E → Option Stop
memory_in (Ok answer) = None
memory_in (Err memory) = Some Memory

-- the stop is of a cell with P, or want of memory
abbrev pub IsOfThese : (ℕ → Type 0) → Stop → Type 0
IsOfThese P (Held cell owner) = P cell
IsOfThese P (Newer cell found) = P cell
IsOfThese P Memory = Unit {0}

-- the stop was found at a cell with P
abbrev pub IsFoundIn : (ℕ → Type 0) → Stop → Type 0
IsFoundIn P (Held cell owner) = P cell
IsFoundIn P (Newer cell found) = P cell
IsFoundIn P Memory = ⊥

-- ---- room, and what waits

-- at most n places for locks and n for observations were used, and m for writes
pub record UsesAtMost (n m : ℕ) (old new : Spare) : Type 0 where
  pub locks : old.locks ≤ new.locks + n
  pub observations : old.observations ≤ new.observations + n
  pub writes : old.writes ≤ new.writes + m

-- other parts' additions, and all that is marked, are as before
pub record KeepsOthers (part : ℕ) (old new : List Waiting) : Type 0 where
  pub others : (q : ℕ) → q ≢ part → waiting_of new q ≡ waiting_of old q
  pub marked : (q : ℕ) → marked_of new q ≡ marked_of old q

module _ {M D : Type 0} where
  -- ---- what an attempt has

  -- calls before the commit may follow
  pub record MayCall (a : Attempt M D) : Type 0 where
    pub open_now : IsOpen a.state
    pub before_commit : a.committing ≡ false

  -- no child is open and the commit hasn't begun, so its first call may follow
  pub record MayCommit (a : Attempt M D) : Type 0 where
    pub running : a.state ≡ Running
    pub before_commit : a.committing ≡ false

  -- what the attempt has of a cell: its own write, else what it observed
  abbrev pub known : Attempt M D → ℕ → Option ℕ
  known a cell = option_or (word_at a.writes cell) (word_at a.observations cell)

  -- the additions to the part that wait for the commit
  abbrev pub waiting : ℕ → Attempt M D → List ℕ
  waiting part a = waiting_of a.additions part

  abbrev pub NothingWaits : Attempt M D → Type 0
  NothingWaits a = (part : ℕ) → waiting_of a.additions part ≡ []

  -- how long the trail was when the attempt began: before its commit the clock was loaded then for the last time
  abbrev pub begun : Attempt M D → ℕ
  begun a = begun_of a.pass.view.trail

  -- the stop was found in this attempt, and has its cause there
  abbrev pub IsCausedInAttempt : Attempt M D → Stop → Type 0
  IsCausedInAttempt a stop = CausedSince (callers_of a.pass.view.books) a.version (begun a) (trail_of a.pass) stop × IsFound stop

  -- a version was drawn, and all that was observed stands just before it
  abbrev pub IsDrawn : Attempt M D → ℕ → Type 0
  IsDrawn a d = (a.pass.view.stage ≡ Drawn d) × ((i : ℕ) → i < length a.observations → Observes a.pass.view (cell_at a.observations i) (word_of a.observations i) (d - 1))

  -- each cell that is written is held
  abbrev pub HoldsWrites : Attempt M D → Type 0
  HoldsWrites a = (c : ℕ) → IsSome (word_at a.writes c) → IsHeld a.pass c

  -- the cell that a stop is of wasn't observed
  abbrev pub IsUnseen : Attempt M D → Stop → Type 0
  IsUnseen a (Held cell owner) = word_at a.observations cell ≡ None
  IsUnseen a (Newer cell found) = word_at a.observations cell ≡ None
  IsUnseen a Memory = ⊥

  -- ---- what a call leaves of an attempt

  -- the attempt goes on as it was but for what it observed, wrote and holds
  pub record Stays (old new : Attempt M D) : Type 0 where
    pub table : new.table ≡ old.table
    pub version : new.version ≡ old.version
    pub notes : new.notes ≡ old.notes
    pub additions : new.additions ≡ old.additions
    pub spare : new.spare ≡ old.spare
    pub committing : new.committing ≡ old.committing
    pub mark : new.mark ≡ old.mark

  -- the attempt is as before, or observed a cell of which it had nothing
  abbrev pub MayObserve : Attempt M D → Attempt M D → ℕ → Type 0
  MayObserve old new cell = (new ≡ old) ⊎ ((word_at old.writes cell ≡ None) × (word_at old.observations cell ≡ None) × (x : ℕ) × Observed old new cell x)

  -- the cell came to be held, at the version u
  abbrev pub Locks : Attempt M D → Attempt M D → ℕ → ℕ → Type 0
  Locks old new cell u = new.pass.view.held ≡ insert_by cell_key (cell, u) old.pass.view.held

  -- how many cells came to be held
  abbrev pub newly_held : PassState M D → PassState M D → ℕ
  newly_held p q = length q.view.held - length p.view.held

  -- what was held is held
  abbrev pub KeepsHeld : Attempt M D → Attempt M D → Type 0
  KeepsHeld old new = (c : ℕ) → IsHeld old.pass c → IsHeld new.pass c

  -- The attempt observed, wrote and locked no cell but such with P
  pub record TouchesOnly (P : ℕ → Type 0) (old new : Attempt M D) : Type 0 where
    pub observed : (more : Entries) × (new.observations ≡ old.observations ++ more) × Each (λ o. P o.0) more
    pub written : (c : ℕ) → (P c → ⊥) → word_at new.writes c ≡ word_at old.writes c
    pub held : (c : ℕ) → (P c → ⊥) → has c (cells_of new.pass.view.held) ≡ has c (cells_of old.pass.view.held)
    -- what was held is held, at the version that it had
    pub kept : (t : ℕ × ℕ) → Among t old.pass.view.held → Among t new.pass.view.held
    -- in any cells the writes leave other cells as the earlier writes left them
    pub others : (cells : List ℕ) (c : ℕ) → (P c → ⊥) → slice_index (after cells new.writes) c ≡ slice_index (after cells old.writes) c

  -- the pass went on in the same attempt: what it knew it knows
  pub record GoesOn (p q : PassState M D) : Type 0 where
    pub is : q ≡ record p { view = q.view; places = q.places }
    pub grows : Grows p.view q.view
    pub books : q.view.books ≡ p.view.books
    pub draws : q.view.draws ≡ p.view.draws
    pub stage : q.view.stage ≡ p.view.stage

  -- it took at most n steps, and touched only cells with P
  pub record StepsAt (P : ℕ → Type 0) (n : ℕ) (old new : Attempt M D) : Type 0 where
    pub version : new.version ≡ old.version
    pub touches : TouchesOnly P old new
    pub pass : GoesOn old.pass new.pass
    pub steps : GrewBy n (trail_of old.pass) (trail_of new.pass)

  -- the cause of the stop lies between these two moments of the attempt
  abbrev pub CausedIn : Attempt M D → Attempt M D → Stop → Type 0
  CausedIn old new stop = CausedSince (callers_of old.pass.view.books) old.version (length (trail_of old.pass)) (trail_of new.pass) stop

  -- ---- children

  -- what the attempt has now, for a child to go back to
  abbrev pub mark_of : Attempt M D → Marked
  mark_of a = record { observations = length a.observations; notes = length a.notes; writes = a.writes; held = a.pass.view.held }

  -- the same additions wait, and all of them are marked
  abbrev pub MarksWaiting : Attempt M D → Attempt M D → Type 0
  MarksWaiting old new = (part : ℕ) → (waiting_of new.additions part ≡ waiting_of old.additions part) × (marked_of new.additions part ≡ waiting_of old.additions part)

  -- The attempt runs as at the mark m: it has the observations, writes, notes, additions and held cells of then. Each cell that was locked since was given back by one step
  pub record GoesBack (old new : Attempt M D) (m : Marked) : Type 0 where
    pub is : new ≡ record old { pass = new.pass; state = Running; observations = take m.observations old.observations; versions = take m.observations old.versions; writes = m.writes; notes = take m.notes old.notes; additions = new.additions; mark = None }
    pub additions : (part : ℕ) → (waiting_of new.additions part ≡ marked_of old.additions part) × (marked_of new.additions part ≡ marked_of old.additions part)
    pub held : new.pass.view.held ≡ m.held
    pub pass : Releases old.pass new.pass
    pub steps : GrewBy (length old.pass.view.held - length m.held) (trail_of old.pass) (trail_of new.pass)

  -- ---- stops

  -- The call stopped the attempt: at a cell with P, with the cause in this call, or by want of memory. Nothing else stops a sole pass
  pub record StopsAt (P : ℕ → Type 0) (old new : Attempt M D) (stop : Stop) : Type 0 where
    pub state : new.state ≡ stopped_from old.state
    pub of : IsOfThese P stop
    pub cause : CausedIn old new stop
    pub sole : IsSole old.pass → stop ≡ Memory

  -- how a call ends: it may be by a stop
  abbrev pub EndsAt : (ℕ → Type 0) → Attempt M D → Attempt M D → Option Stop → Type 0
  EndsAt P old new None = new.state ≡ old.state
  EndsAt P old new (Some stop) = StopsAt P old new stop

  -- What a call leaves that looks at cells with P, and may hold them
  pub record HoldsAt (P : ℕ → Type 0) (n : ℕ) (old new : Attempt M D) (stop : Option Stop) : Type 0 where
    pub ends : EndsAt P old new stop
    pub does : StepsAt P n old new
    pub known : new.pass.view.known ≡ old.pass.view.known
    pub began : begun new ≡ begun old

  -- What a call leaves that looks at cells with P, and holds none
  pub record LooksAt (P : ℕ → Type 0) (n : ℕ) (old new : Attempt M D) (stop : Option Stop) : Type 0 where
    pub ends : EndsAt P old new stop
    pub does : StepsAt P n old new
    pub known : new.pass.view.known ≡ old.pass.view.known
    pub began : begun new ≡ begun old
    pub held : new.pass.view.held ≡ old.pass.view.held

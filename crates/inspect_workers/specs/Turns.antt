-- How a turn ends.
use Rattle.std.specs.Prelude.{◌≡◌, ◌⊎◌, ℕ, ◌+◌, ◌<◌, ◌≤◌, List, [], ◌∷◌, length, get_or}
use Rattle.cell_table.specs.declared.view.Noted.{Noted}
use Rattle.cell_table.specs.Pass.{PassState, IsSole}
use Rattle.inspect_workers.specs.declared.turns.TurnEnd.{TurnEnd}
use Rattle.inspect_workers.specs.declared.turns.TurnEnd.TheVariants as turns
use Rattle.inspect_workers.specs.Noted.{Books, Adds, AddsOne, calls_of, with_record, HasNoneAfter, IsMatched, IsTaken}
use Rattle.run_bodies.specs.RunStores.{work_of_run}
use Rattle.run_purpose.specs.declared.purpose.RunPurpose.{RunPurpose}
use Rattle.run_purpose.specs.Lawful.{IsLawfulRun}
use Rattle.run_stages.specs.Allowed.{IsAllowed}
use Rattle.run_stages.specs.Ends.{AreAllDatagrams}
use Rattle.run_stages.specs.Work.{Work, values_of}
use Rattle.serial_terms.specs.declared.call.Done.{Done}
use Rattle.serial_terms.specs.declared.sight.SightEnd.TheVariants.{Full}
use Rattle.serial_terms.specs.Histories.{Runs}
use Rattle.serial_terms.specs.Renaming.{NamedDone, by_key, by_name}
use Rattle.serial_terms.specs.Serial.{State, IsWithinCapacity}
use Rattle.serial_terms.specs.Sights.{Seen, EndsAs}
use Rattle.serial_terms.specs.Worked.{no_item, no_task}
use Rattle.store_layout.specs.Shapes.{Shape}
use Rattle.store_meaning.specs.declared.meaning.StoreMeaning.{StoreMeaning}
use Rattle.tx_store.specs.declared.run.RunEnd.{RunEnd}
use Rattle.tx_store.specs.declared.run.RunEnd.TheVariants as runs
use Rattle.tx_store.specs.Known.{Vouches}
use Rattle.tx_store.specs.Resolves.{parts_of}
use Rattle.tx_store.specs.Runs.{IsLeft, IsRefusedRun}
use Rattle.tx_store.specs.Stores.{StoreView, PassView}

-- ---- what a turn adds to the books

-- a datagram was matched; or nothing was to be matched, and a task was taken
abbrev pub HasWorked : Work → Books → Books → Type 0
HasWorked w old new = Adds (IsMatched w) old new
    ⊎ ((middle : Books) × Adds (λ calls. calls ≡ no_item ∷ []) old middle × Adds (IsTaken w) middle new)

module _ {M : Type 0} where
  -- Nothing was to be matched, and next nothing to be taken. Of a pass with every caller number no earlier record has a later place
  pub record FindsNothing (old new : PassState M NamedDone) : Type 0 where
    pub item : Noted NamedDone
    pub task : Noted NamedDone
    pub books : new.books ≡ with_record task (with_record item old.books)
    pub no_item : calls_of item ≡ no_item ∷ []
    pub no_task : calls_of task ≡ no_task ∷ []
    pub order : item.place ≤ task.place
    pub seen : task.place ≡ new.seen
    pub last : IsSole old → HasNoneAfter item.place old.books

-- ---- why it adds none

-- the log has no room for what is to be added, and all findings are more than it may have
pub record IsFullLog (w : Work) (plan : Shape) (part values adding : ℕ) : Type 0 where
  pub log : part ≡ 1
  pub exceeds : get_or plan.logs 0 0 < values + adding
  pub more : (items : List ℕ) → AreAllDatagrams w items → get_or plan.logs 0 0 < length (values_of w items)

-- no map is full, and a full log has more to it than the end of its transaction says
abbrev pub IsFullAsLog : Work → Shape → RunEnd → Type 0
IsFullAsLog w plan (runs.Spent tries last) = Unit {0}
IsFullAsLog w plan (runs.Full part values adding) = IsFullLog w plan part values adding
IsFullAsLog w plan (runs.KeysFull map capacity) = ⊥
IsFullAsLog w plan runs.Memory = Unit {0}

-- these calls are allowed, and run from a state within its capacities to one whose log is full
pub record RunsToFullLog (w : Work) (calls : List Done) (values adding : ℕ) : Type 0 where
  pub allowed : IsAllowed w calls
  pub start : State
  pub within : IsWithinCapacity start
  pub end : State
  pub runs : Runs start calls end
  pub full : EndsAs 1 end (Full 1 values adding)

-- memory was wanting, and nothing else
abbrev pub IsForMemory : RunEnd → Type 0
IsForMemory (runs.Spent n last) = ⊥
IsForMemory (runs.Full part values adding) = ⊥
IsForMemory (runs.KeysFull map capacity) = ⊥
IsForMemory runs.Memory = Unit {0}

module _ {K : Type 0} (run : RunPurpose) (store : StoreView (StoreMeaning RunPurpose K)) where
  -- the pass vouches for what was seen
  abbrev pub Saw : PassView (StoreMeaning RunPurpose K) → Seen NamedDone → Type 0
  Saw = Vouches (λ (p : RunPurpose). IsLawfulRun (work_of_run p)) store.table.meaning

  -- a transaction between these passes was refused with this end, which left the books as they were
  pub record IsRefusedWith (tries : ℕ) (old new : PassView (StoreMeaning RunPurpose K)) (end : RunEnd) : Type 0 where
    pub books : new.pass.books ≡ old.pass.books
    pub cause : IsRefusedRun Saw (parts_of store.table.meaning.plan) (λ notes. IsAllowed (work_of_run run) (by_key notes)) tries old new end
    pub full : IsFullAsLog (work_of_run run) store.table.meaning.plan end

  -- where the pass saw behind allowed calls that a part is full, that is the log
  abbrev pub TellsOfFull : PassView (StoreMeaning RunPurpose K) → Type 0
  TellsOfFull p = (seen : Seen NamedDone) (part values adding : ℕ) → Saw p seen → seen.end ≡ Full part values adding
      → IsAllowed (work_of_run store.table.meaning.purpose) (by_name seen.dones) → part < parts_of store.table.meaning.plan
      → IsFullLog (work_of_run run) store.table.meaning.plan part values adding × RunsToFullLog (work_of_run run) (by_name seen.dones) values adding

  -- that was the first one of a turn; or it was the second one, behind a record of the first one, that nothing was to be matched
  abbrev pub IsRefusedTurn : ℕ → PassView (StoreMeaning RunPurpose K) → PassView (StoreMeaning RunPurpose K) → RunEnd → Type 0
  IsRefusedTurn tries old new end = IsRefusedWith tries old new end
      ⊎ ((middle : PassView (StoreMeaning RunPurpose K)) × Adds (λ calls. calls ≡ no_item ∷ []) old.pass.books middle.pass.books × IsLeft store tries old middle × IsRefusedWith tries middle new end)

  -- ---- by how it ends

  abbrev pub IsTurnEnd : ℕ → PassView (StoreMeaning RunPurpose K) → PassView (StoreMeaning RunPurpose K) → TurnEnd → Type 0
  IsTurnEnd tries old new turns.Worked = HasWorked (work_of_run run) old.pass.books new.pass.books
  IsTurnEnd tries old new turns.Empty = FindsNothing old.pass new.pass
  IsTurnEnd tries old new (turns.Spent n last) = IsRefusedTurn tries old new (runs.Spent n last)
  IsTurnEnd tries old new (turns.Full part values adding) = IsRefusedTurn tries old new (runs.Full part values adding)
  IsTurnEnd tries old new turns.Memory = IsRefusedTurn tries old new runs.Memory

  -- the second transaction alone: it took a task, or found none, or was refused
  abbrev pub IsTakeEnd : ℕ → PassView (StoreMeaning RunPurpose K) → PassView (StoreMeaning RunPurpose K) → TurnEnd → Type 0
  IsTakeEnd tries old new turns.Worked = AddsOne (IsTaken (work_of_run run)) old.pass new.pass
  IsTakeEnd tries old new turns.Empty = AddsOne (λ calls. calls ≡ no_task ∷ []) old.pass new.pass
  IsTakeEnd tries old new (turns.Spent n last) = IsRefusedWith tries old new (runs.Spent n last)
  IsTakeEnd tries old new (turns.Full part values adding) = IsRefusedWith tries old new (runs.Full part values adding)
  IsTakeEnd tries old new turns.Memory = IsRefusedWith tries old new runs.Memory

-- the end of a turn one transaction of which ended so
abbrev pub refused_turn : RunEnd → TurnEnd
refused_turn (runs.Spent n last) = turns.Spent n last
refused_turn (runs.Full part values adding) = turns.Full part values adding
refused_turn (runs.KeysFull map capacity) = turns.Memory
refused_turn runs.Memory = turns.Memory

-- not every attempt was ended by Held or Newer
abbrev pub IsNotSpent : TurnEnd → Type 0
IsNotSpent turns.Worked = Unit {0}
IsNotSpent turns.Empty = Unit {0}
IsNotSpent (turns.Spent n last) = ⊥
IsNotSpent (turns.Full part values adding) = Unit {0}
IsNotSpent turns.Memory = Unit {0}

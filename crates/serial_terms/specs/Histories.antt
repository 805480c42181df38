-- Histories of a store.
use Rattle.std.specs.Prelude.{ℕ, List, [], ◌∷◌}
use Rattle.serial_terms.specs.declared.call.Done.{Done}
use Rattle.serial_terms.specs.declared.committed.Record.{Record}
use Rattle.serial_terms.specs.Entries.{Entry, IsInOrder, IsInPlaceOrder, by_caller, up_to, IsCountedFrom, OneWriterAPlace, WritersArePlaced}
use Rattle.serial_terms.specs.Runs.{RunsBy, LegalBy}
use Rattle.serial_terms.specs.Serial.{State, IsReplied, step, IsWithinCapacity}

-- the calls run one after another from s to t, each with a reply that the structures may give
abbrev pub Runs : State → List Done → State → Type 0
Runs = RunsBy IsReplied step

abbrev pub entry_of : Record → Entry Done
entry_of r = record { caller = r.caller; index = r.index; place = r.place; writer = r.writer; dones = r.dones }

abbrev pub entries_of : List Record → List (Entry Done)
entries_of [] = []
entries_of (r ∷ rs) = entry_of r ∷ entries_of rs

-- the records run one after another from s to t; each queue and log is within its capacity after each record, and a
-- record that is no writer leaves the state as it was
abbrev pub IsLegalRun : State → List (Entry Done) → State → Type 0
IsLegalRun = LegalBy IsReplied step IsWithinCapacity

-- a legal history: the records of several callers as one serial run
pub record IsLegalHistory (start : State) (history : List (Entry Done)) (end : State) : Type 0 where
  -- by place, at one place the writer first, then by caller, then by index
  pub order : IsInOrder history
  pub run : IsLegalRun start history end
  -- each caller's records have the indices 0, 1, 2 and so on
  pub counted : (k : ℕ) → IsCountedFrom 0 (by_caller k history)
  pub apart : OneWriterAPlace history
  pub placed : WritersArePlaced history

-- the state after the records with a place of at most t
abbrev pub IsStateAt : State → List (Entry Done) → ℕ → State → Type 0
IsStateAt start history t s = IsLegalRun start (up_to t history) s

-- a legal run in which each state after a record is also lawful, as a purpose says what is lawful
abbrev pub RunsLawfully : (State → Type 0) → State → List (Entry Done) → State → Type 0
RunsLawfully lawful = LegalBy IsReplied step (λ s. IsWithinCapacity s × lawful s)

-- what can be said of a history while attempts run, when the indices of other callers' records aren't known
pub record IsRunning (lawful : State → Type 0) (start : State) (history : List (Entry Done)) (end : State) : Type 0 where
  pub order : IsInPlaceOrder history
  pub run : RunsLawfully lawful start history end
  pub apart : OneWriterAPlace history
  pub placed : WritersArePlaced history

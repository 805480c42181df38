-- The laws of histories for what a purpose finds lawful of states, and allows of records.
use Rattle.std.specs.Prelude.{◌≡◌, ℕ, ◌≤◌, List, Option, Some}
use Rattle.serial_terms.specs.declared.call.Done.{Done}
use Rattle.serial_terms.specs.Entries.{Entry, Each, StandsBefore, up_to, merged, AreOfTheirPlaces, numbered, by_caller, IsCountedFrom}
use Rattle.serial_terms.specs.Histories.{Runs, IsLegalRun, IsLegalHistory, RunsLawfully, IsRunning}
use Rattle.serial_terms.specs.Renaming.{NamedDone, by_key, by_name, entries_with, AreNamesIn, MayName, SameButKeys}
use Rattle.serial_terms.specs.Runs.{ExplainThemselves}
use Rattle.serial_terms.specs.Serial.{State, IsReplied, step, IsWithinCapacity}

module _ (lawful : State → Type 0) where
  -- records merged place by place are a running history where the states at the places are lawful and each record explains itself
  -- by them; and the state at an earlier place is the one there
  abbrev pub MergedIsRunning : Type 0
  MergedIsRunning = (writer : ℕ → Option (Entry Done)) (readers : ℕ → List (Entry Done)) (state : ℕ → State)
      → AreOfTheirPlaces StandsBefore writer readers
      → ExplainThemselves IsReplied step (λ s. IsWithinCapacity s × lawful s) state writer readers
      → (p : ℕ) → IsRunning lawful (state 0) (merged writer readers p) (state p)
      × ((t : ℕ) → t ≤ p → RunsLawfully lawful (state 0) (up_to t (merged writer readers p)) (state t))

  -- a running history is a legal one once each record has the number of its caller's records before it as its index, and as it
  -- stands where it has these indices already
  abbrev pub RunningIsLegal : Type 0
  RunningIsLegal = (start end : State) (history : List (Entry Done)) → IsRunning lawful start history end
      → IsLegalHistory start (numbered (λ k. 0) history) end
      × (((k : ℕ) → IsCountedFrom 0 (by_caller k history)) → IsLegalHistory start history end)

  -- from a lawful state it passes through lawful ones
  abbrev pub RunningStaysLawful : Type 0
  RunningStaysLawful = (start end : State) (history : List (Entry Done)) → IsRunning lawful start history end → lawful start
      → lawful end × ((t : ℕ) → (s : State) × RunsLawfully lawful start (up_to t history) s × lawful s)

  -- a legal run of allowed records passes through lawful states alone, where an allowed record leads from a lawful one to a lawful one
  abbrev pub AllowedRunsLawfully : (List Done → Type 0) → Type 0
  AllowedRunsLawfully allowed = ((ds : List Done) (s t : State) → lawful s → allowed ds → Runs s ds t → lawful t)
      → (start end : State) (history : List (Entry Done)) → lawful start → Each (λ e. allowed e.dones) history
      → IsLegalRun start history end → RunsLawfully lawful start history end

  -- and each run through lawful states is legal
  abbrev pub LawfulRunsAreLegal : Type 0
  LawfulRunsAreLegal = (start end : State) (history : List (Entry Done)) → RunsLawfully lawful start history end
      → IsLegalRun start history end

-- allowed records stay allowed with the names of their keys, where with each record those are allowed that are the same but for keys
abbrev pub RenamedStayAllowed : (List Done → Type 0) → (ℕ → ℕ → Type 0) → Type 0
RenamedStayAllowed allowed passes = ((ds es : List Done) → SameButKeys passes ds es → allowed ds → allowed es)
    → (name : ℕ → ℕ → Option ℕ) → ((m k n : ℕ) → name m k ≡ Some n → MayName passes n k)
    → (es : List (Entry NamedDone)) → AreNamesIn name es
    → Each (λ e. allowed e.dones) (entries_with by_key es) → Each (λ e. allowed e.dones) (entries_with by_name es)

-- The one history of a store.
use Rattle.std.specs.Prelude.{◌≡◌, ℕ, ◌<◌, ◌≤◌, List, length}
use Rattle.serial_terms.specs.declared.call.Done.{Done}
use Rattle.serial_terms.specs.Entries.{Entry, Each, by_caller, up_to, IsHistoryOf}
use Rattle.serial_terms.specs.Histories.{Runs, IsLegalHistory, RunsLawfully}
use Rattle.serial_terms.specs.Renaming.{NamedDone, by_key, by_name, entries_with, seen_with}
use Rattle.serial_terms.specs.Serial.{State}
use Rattle.serial_terms.specs.Sights.{Seen, EndsAs}
use Rattle.cell_table.specs.Cells.{AllHold}
use Rattle.cell_table.specs.Sorted.{Each as EachOf}
use Rattle.cell_table.specs.Pass.{PassState}
use Rattle.cell_table.specs.Steps.{Observes}
use Rattle.cell_table.specs.declared.view.View.{View}
use Rattle.store_history.specs.Books.{books_of}

-- the state after the records with a place of at most this one, and it is lawful
abbrev pub IsLawfulAt : (State → Type 0) → State → List (Entry Done) → ℕ → State → Type 0
IsLawfulAt lawful_state start history place s = lawful_state s × RunsLawfully lawful_state start (up_to place history) s

-- the calls run from the state at their place, which is lawful, to an end as the sight says
pub record IsSeen (lawful_state : State → Type 0) (queues : ℕ) (start : State) (history : List (Entry Done)) (seen : Seen Done) : Type 0 where
  pub state : State
  pub there : IsLawfulAt lawful_state start history seen.place state
  pub run : (end : State) × Runs state seen.dones end × EndsAs queues end seen.end

module _ {M D : Type 0} (lawful : M → List ℕ → Type 0) (named : List D → List NamedDone) (state_of : M → List ℕ → State) where
  -- The view vouches for a sight: it has observations that stand at the place of the sight, and wherever they hold in lawful
  -- cells the calls run from the state of the cells to an end as the sight says
  pub record VouchesFor (m : M) (v : View M D) (queues : ℕ) (seen : Seen NamedDone) : Type 0 where
    pub observations : List (ℕ × ℕ)
    pub known : seen.place ≤ v.known
    pub stand : EachOf (λ o. (o.0 < length v.opening) × Observes v o.0 o.1 seen.place) observations
    pub run : (cells : List ℕ) → lawful m cells → AllHold cells observations
        → (end : State) × Runs (state_of m cells) (by_name seen.dones) end × EndsAs queues end seen.end

  module _ (lawful_state : M → State → Type 0) (allows : M → List Done → Type 0) where
    -- One legal history from the opening to this end, of allowed records, with lawful states, of which the books of the pass are a
    -- part and in which all is seen that its view vouches for. Its calls run by the names of their keys, since the cells know no keys
    pub record IsOneHistory (m : M) (p : PassState M D) (history : List (Entry NamedDone)) (end : State) : Type 0 where
      pub legal : IsLegalHistory (state_of m p.view.opening) (entries_with by_name history) end
      pub lawful_end : lawful_state m end
      -- the state at each place is lawful
      pub lawful_there : (place : ℕ) → (s : State) × IsLawfulAt (lawful_state m) (state_of m p.view.opening) (entries_with by_name history) place s
      -- each record is allowed by its keys, and by their names
      pub allowed : Each (λ e. allows m e.dones) (entries_with by_key history)
      pub placed : Each (λ e. allows m e.dones) (entries_with by_name history)
      -- of each caller number of the pass it has exactly the records of its book, in their order
      pub own : Each (λ b. by_caller b.caller history ≡ b.records) (books_of named p.books)
      pub sights : (queues : ℕ) (seen : Seen NamedDone) → VouchesFor m p.view queues seen
          → IsSeen (lawful_state m) queues (state_of m p.view.opening) (entries_with by_name history) (seen_with by_name seen)

    -- what a pass knows at any moment
    abbrev pub OneHistory : M → PassState M D → Type 0
    OneHistory m p = (history : List (Entry NamedDone)) × (end : State) × IsOneHistory m p history end

    -- A history that has the records of these books and no others, and no later place than the pass has seen
    pub record IsWholeHistory (m : M) (p : PassState M D) (history : List (Entry NamedDone)) (end : State) : Type 0 where
      pub one : IsOneHistory m p history end
      pub records : IsHistoryOf (books_of named p.books) history
      pub places : Each (λ e. e.place ≤ p.seen) history

    -- what a pass with every caller number knows
    abbrev pub WholeHistory : M → PassState M D → Type 0
    WholeHistory m p = (history : List (Entry NamedDone)) × (end : State) × IsWholeHistory m p history end

    -- the history at the end, which is the state of the values that the cells are left with
    abbrev pub LastHistory : M → PassState M D → List ℕ → Type 0
    LastHistory m p values = (history : List (Entry NamedDone)) × IsWholeHistory m p history (state_of m values)

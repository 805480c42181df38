-- What an open attempt on a store sees, and what a sight tells that a pass vouches for.
use Rattle.std.specs.Prelude.{List, length}
use Rattle.serial_terms.specs.declared.call.Done.{Done}
use Rattle.serial_terms.specs.Entries.{Entry}
use Rattle.serial_terms.specs.Histories.{Runs}
use Rattle.serial_terms.specs.Renaming.{NamedDone, by_name, entries_with}
use Rattle.serial_terms.specs.Serial.{State, IsWithinCapacity}
use Rattle.serial_terms.specs.Sights.{Seen, EndsAs}
use Rattle.store_history.specs.Histories.{IsOneHistory, IsLawfulAt}
use Rattle.store_history.specs.Meanings.{IsLawful}
use Rattle.store_layout.specs.States.{IsFormed, state_in}
use Rattle.store_meaning.specs.declared.meaning.StoreMeaning.{StoreMeaning}
use Rattle.tx_core.specs.Tx.{Attempt}

module _ {P K : Type 0} (lawful_state : P → State → Type 0) where
  -- There is one legal history of allowed records, through lawful states, of which the books of its pass are a part. The state at the
  -- attempt's version is lawful, and from it the attempt's calls so far run, with these replies
  pub record SeesHistory (allowed : P → List Done → Type 0) (m : StoreMeaning P K) (a : Attempt (StoreMeaning P K) NamedDone) : Type 0 where
    pub history : List (Entry NamedDone)
    pub end : State
    pub one : IsOneHistory (λ m. IsLawful (IsFormed m.plan) (state_in m.plan) (lawful_state m.purpose)) (λ notes. notes) (λ m. state_in m.plan)
        (λ m. lawful_state m.purpose) (λ m. allowed m.purpose) m a.pass history end
    pub state : State
    pub there : IsLawfulAt (lawful_state m.purpose) (state_in m.plan a.pass.view.opening) (entries_with by_name history) a.version state
    pub now : State
    pub run : Runs state (by_name a.notes) now

  -- From a lawful state, in which nothing has more than its capacity, the calls run with these replies, to an end as the sight says
  pub record SeesState (m : StoreMeaning P K) (seen : Seen NamedDone) : Type 0 where
    pub state : State
    pub lawful : lawful_state m.purpose state
    pub within : IsWithinCapacity state
    pub now : State
    pub run : Runs state (by_name seen.dones) now
    pub ends : EndsAs (length m.plan.queues) now seen.end

-- How a worker's run ends.
use Rattle.std.specs.Prelude.{◌≡◌, ℕ, ◌+◌, ◌-◌, ◌*◌, ◌^◌, ◌≤◌, List, [], ◌∷◌, length, Option, Some, None}
use Rattle.cell_table.specs.declared.view.Noted.{Noted}
use Rattle.inspect_workers.specs.declared.turns.TurnEnd.{TurnEnd}
use Rattle.inspect_workers.specs.declared.turns.TurnEnd.TheVariants as turns
use Rattle.inspect_workers.specs.declared.works.WorkEnd.{WorkEnd}
use Rattle.inspect_workers.specs.declared.works.WorkEnd.TheVariants as works
use Rattle.inspect_workers.specs.Noted.{Books, AddsUpTo, IsOfWorker, calls_of, with_records}
use Rattle.inspect_workers.specs.Turns.{FindsNothing, IsRefusedTurn}
use Rattle.run_bodies.specs.RunStores.{work_of_run}
use Rattle.run_purpose.specs.declared.purpose.RunPurpose.{RunPurpose}
use Rattle.run_stages.specs.Ends.{tasks_taken, items_taken}
use Rattle.run_stages.specs.Work.{Work}
use Rattle.serial_terms.specs.Entries.{Each}
use Rattle.serial_terms.specs.Renaming.{NamedDone}
use Rattle.store_meaning.specs.declared.meaning.StoreMeaning.{StoreMeaning}
use Rattle.tx_store.specs.declared.run.RunEnd.TheVariants as runs
use Rattle.tx_store.specs.Runs.{IsLeft}
use Rattle.tx_store.specs.Stores.{StoreView, PassView}

-- how many versions a worker's run draws at most
abbrev pub most_draws : ℕ
most_draws = 2 ^ 31 - 1

module _ {K : Type 0} (run : RunPurpose) (store : StoreView (StoreMeaning RunPurpose K)) where
  -- how its last turn, which began with this pass, ended
  abbrev pub IsLastTurn : ℕ → PassView (StoreMeaning RunPurpose K) → PassView (StoreMeaning RunPurpose K) → WorkEnd → Type 0
  IsLastTurn tries old new works.Done = FindsNothing old.pass new.pass
  IsLastTurn tries old new (works.Spent n last) = IsRefusedTurn run store tries old new (runs.Spent n last)
  IsLastTurn tries old new (works.Full part values adding) = IsRefusedTurn run store tries old new (runs.Full part values adding)
  IsLastTurn tries old new works.Memory = IsRefusedTurn run store tries old new runs.Memory

  -- Turns added records of a worker, and the last turn ended so
  pub record IsWorkEnd (tries : ℕ) (old new : PassView (StoreMeaning RunPurpose K)) (end : WorkEnd) : Type 0 where
    pub before : PassView (StoreMeaning RunPurpose K)
    pub worked : AddsUpTo (4 * length run.plan.now.tasks.items) (IsOfWorker (work_of_run run)) old.pass.books before.pass.books
    pub left : IsLeft store most_draws old before
    pub ends : IsLastTurn tries before new end

-- how a worker's run ends with such a turn, if it ends with it
abbrev pub last_end : TurnEnd → Option WorkEnd
last_end turns.Worked = None
last_end turns.Empty = Some works.Done
last_end (turns.Spent n last) = Some (works.Spent n last)
last_end (turns.Full part values adding) = Some (works.Full part values adding)
last_end turns.Memory = Some works.Memory

-- how many tasks and items the records took
abbrev pub taken_in : List (Noted NamedDone) → ℕ
taken_in [] = 0
taken_in (e ∷ es) = tasks_taken (calls_of e) + items_taken (calls_of e) + taken_in es

-- so many turns each added a record that took one of these, and one before it at most
pub record HasTurned (w : Work) (turns : ℕ) (old new : Books) : Type 0 where
  pub entries : List (Noted NamedDone)
  pub books : new ≡ with_records entries old
  pub few : length entries ≤ 2 * turns
  pub calls : Each (λ e. IsOfWorker w (calls_of e)) entries
  pub many : turns ≤ taken_in entries

-- it isn't ended by Held or Newer
abbrev pub IsNotSpent : WorkEnd → Type 0
IsNotSpent works.Done = Unit {0}
IsNotSpent (works.Spent n last) = ⊥
IsNotSpent (works.Full part values adding) = Unit {0}
IsNotSpent works.Memory = Unit {0}

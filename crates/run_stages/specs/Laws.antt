-- The laws of the run, each as one statement.
use Rattle.std.specs.Prelude.{◌≡◌, ℕ, ◌+◌, ◌*◌, ◌≤◌, List, length, Some, IsSome, IsPermutation}
use Rattle.serial_terms.specs.declared.call.Done.{Done}
use Rattle.serial_terms.specs.Entries.{Entry}
use Rattle.serial_terms.specs.Histories.{Runs}
use Rattle.serial_terms.specs.Serial.{State}
use Rattle.run_stages.specs.Work.{Work, IsSoundWork, IsMember, room, given_count, values_of}
use Rattle.run_stages.specs.Allowed.{IsAllowed}
use Rattle.run_stages.specs.Stages.{IsLawful}
use Rattle.run_stages.specs.Opening.{opening, IsRunOfWork}
use Rattle.run_stages.specs.Ends.{IsFinished, AreAllDatagrams, IsIncomplete, all_tasks_taken, all_items_taken, fills_made}

abbrev pub OpeningIsLawful : Type 0
OpeningIsLawful = (w : Work) (findings : ℕ) → IsLawful w (opening w findings)

-- an allowed record that runs from a lawful state leaves a lawful state
abbrev pub AllowedKeepsLawful : Type 0
AllowedKeepsLawful = (w : Work) → IsSoundWork w → (ds : List Done) → IsAllowed w ds → (s t : State)
    → IsLawful w s → Runs s ds t → IsLawful w t

-- so a run of work ends in a lawful state
abbrev pub RunsEndLawful : Type 0
RunsEndLawful = (w : Work) → IsSoundWork w → (findings : ℕ) (records : List (Entry Done)) (end : State)
    → IsRunOfWork w findings records end → IsLawful w end

-- a finished lawful state has in its log the values of all datagrams' findings, in some order
abbrev pub FinishedFindsAll : Type 0
FinishedFindsAll = (w : Work) (s : State) → IsLawful w s → IsFinished w s → (items : List ℕ)
    → AreAllDatagrams w items → IsPermutation (values_of w items) (s.logs 0).items

-- and in its maps the incomplete groups alone: map 0 has exactly their numbers as keys, and map 1 links their tasks alone
abbrev pub FinishedKeepsIncomplete : Type 0
FinishedKeepsIncomplete = (w : Work) → IsSoundWork w → (s : State) → IsLawful w s → IsFinished w s
    → ((h x : ℕ) → s.maps 0 h ≡ Some x → IsIncomplete w h) × ((h : ℕ) → IsIncomplete w h → IsSome (s.maps 0 h))
    × ((i j : ℕ) → s.maps 1 i ≡ Some j → (h : ℕ) × IsMember w h i × IsIncomplete w h)

-- a run takes each given task from the pool once at most, and no more items from the queue than tasks from the pool;
-- pool and queue together never have more items than the queue may have
abbrev pub RunsAreBounded : Type 0
RunsAreBounded = (w : Work) → IsSoundWork w → (findings : ℕ) (records : List (Entry Done)) (end : State)
    → IsRunOfWork w findings records end
    → (all_tasks_taken records + (end.pools 0).held ≡ given_count w (end.cells 0))
    × (all_items_taken records + length (end.queues 0).items ≤ all_tasks_taken records)
    × (all_tasks_taken records ≤ length w.tasks)
    × (all_items_taken records ≤ length w.tasks)
    × ((end.pools 0).held + length (end.queues 0).items ≤ room w)

-- plain cell 0 is the number of fills; and where no more is to be filled, every task was given
abbrev pub FillsAreCounted : Type 0
FillsAreCounted = (w : Work) → IsSoundWork w → (findings : ℕ) (records : List (Entry Done)) (end : State)
    → IsRunOfWork w findings records end
    → (end.cells 0 ≡ fills_made records)
    × (length w.tasks ≤ 4096 * (fills_made records + 1) → length w.tasks ≤ given_count w (end.cells 0))

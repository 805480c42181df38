-- What replies in a lawful state tell a worker.
use Rattle.std.specs.Prelude.{◌≡◌, ℕ, ◌+◌, ◌^◌, ◌<◌, ◌≤◌, IsTrue, IsFalse, ◌⊎◌, List, [], ◌∷◌, ◌++◌, length, Some}
use Rattle.serial_terms.specs.declared.call.Call.TheVariants.{MapGet, MapRemove, Dequeue, QueueLen, CellGet, CellPut}
use Rattle.serial_terms.specs.declared.call.Reply.TheVariants.{Nothing, Value}
use Rattle.serial_terms.specs.declared.call.Done.{Done}
use Rattle.serial_terms.specs.Counts.{times}
use Rattle.serial_terms.specs.declared.sight.SightEnd.TheVariants.{Full}
use Rattle.serial_terms.specs.Entries.{Entry, Each, IsIn, IsInPlaceOrder, by_caller}
use Rattle.serial_terms.specs.Histories.{Runs}
use Rattle.serial_terms.specs.Serial.{State, first, outside}
use Rattle.serial_terms.specs.Sights.{EndsAs}
use Rattle.serial_terms.specs.Worked.{no_item, no_task}
use Rattle.run_stages.specs.Work.{Work, IsSoundWork, IsWhole, IsMember, IsComplete, given_count, task_item, group_item, item_values, values_of, head_of}
use Rattle.run_stages.specs.Allowed.{IsAllowed, new_bytes, new_total, walk, gives, next_batch}
use Rattle.run_stages.specs.Ends.{IsFinished, AreAllDatagrams, all_tasks_taken, all_items_taken}
use Rattle.run_stages.specs.Opening.{IsRunOfWork}
use Rattle.run_stages.specs.Stages.{IsLawful}

-- the calls of a walk from the task i on through these tasks, that hasn't come to its end yet
abbrev pub walked : ℕ → List ℕ → List Done
walked i [] = []
walked i (j ∷ js) = outside (MapGet 1 i) (Value j) ∷ outside (MapRemove 1 i) Nothing ∷ walked j js

-- an item in the pool is a task that was given, and the queue has room for one more item
abbrev pub TakenIsTask : Type 0
TakenIsTask = (w : Work) (s : State) → IsLawful w s → (i : ℕ) → 0 < (s.pools 0).count i
    → (i < given_count w (s.cells 0)) × (length (s.queues 0).items < (s.queues 0).capacity)

-- the first item of the queue is a whole task's, or a complete group's that has its word in map 0
abbrev pub QueuedIsDatagram : Type 0
QueuedIsDatagram = (w : Work) (s : State) → IsLawful w s → (x : ℕ) → Value x ≡ first (s.queues 0).items
    → ((i : ℕ) × (x ≡ task_item i) × IsWhole w i) ⊎ ((h : ℕ) × (x ≡ group_item h) × IsComplete w h × ((y : ℕ) × (s.maps 0 h ≡ Some y)))

-- the word of a group to which a task of the pool is added has its parts below 2^16, and its old head is a task of the group
abbrev pub AddedWordFits : Type 0
AddedWordFits = (w : Work) → IsSoundWork w → (s : State) → IsLawful w s → (h i : ℕ) → IsMember w h i
    → 0 < (s.pools 0).count i
    → (new_bytes w i (s.maps 0 h) < 2 ^ 16) × (new_total w i (s.maps 0 h) < 2 ^ 16)
    × ((x : ℕ) → s.maps 0 h ≡ Some x → IsMember w h (head_of x))

-- a walk goes through tasks of the group, each once, so through no more than there are tasks
abbrev pub WalkStaysInGroup : Type 0
WalkStaysInGroup = (w : Work) → IsSoundWork w → (s t : State) → IsLawful w s → (h x : ℕ) (before : List ℕ)
    → Runs s (outside (Dequeue 0) (Value (group_item h)) ∷ outside (MapGet 0 h) (Value x) ∷ outside (MapRemove 0 h) Nothing ∷ walked (head_of x) before) t
    → ((i : ℕ) → times i (head_of x ∷ before) ≤ 1)
    × ((i : ℕ) → 0 < times i (head_of x ∷ before) → IsMember w h i)
    × (length (head_of x ∷ before) ≤ length w.tasks)

-- and where it ends, through all tasks of the group, which is complete
abbrev pub WalkFindsGroup : Type 0
WalkFindsGroup = (w : Work) → IsSoundWork w → (s t : State) → IsLawful w s → (h x : ℕ) (before : List ℕ)
    → Runs s (outside (Dequeue 0) (Value (group_item h)) ∷ outside (MapGet 0 h) (Value x) ∷ outside (MapRemove 0 h) Nothing ∷ walk w (head_of x) before) t
    → IsComplete w h × ((i : ℕ) → IsMember w h i → times i (head_of x ∷ before) ≡ 1)
    × ((i : ℕ) → 0 < times i (head_of x ∷ before) → IsMember w h i)

-- the log never has more values than all datagrams together, and has room among these for those of the queue's first item
abbrev pub LogIsPartOfAll : Type 0
LogIsPartOfAll = (w : Work) (s : State) → IsLawful w s → (items : List ℕ) → AreAllDatagrams w items
    → (length (s.logs 0).items ≤ length (values_of w items))
    × ((x : ℕ) → Value x ≡ first (s.queues 0).items → length (s.logs 0).items + length (item_values w x) ≤ length (values_of w items))

-- one caller's records take no more than all records
abbrev pub OneCallerTakesLess : Type 0
OneCallerTakesLess = (k : ℕ) (records : List (Entry Done))
    → (all_tasks_taken (by_caller k records) ≤ all_tasks_taken records)
    × (all_items_taken (by_caller k records) ≤ all_items_taken records)

-- the calls of a fill up to the Gives of these tasks
abbrev pub filling : Work → ℕ → List ℕ → List Done
filling w f tasks = outside (QueueLen 0) (Value 0) ∷ outside (CellGet 0) (Value f) ∷ outside (CellPut 0 (f + 1)) Nothing ∷ gives w tasks

-- in a lawful state with an empty pool each Give of a fill finds a free slot; with an empty queue, too, the whole fill runs
pub record FillFits (w : Work) (s : State) : Type 0 where
  pub each : (before : List ℕ) (i : ℕ) (behind : List ℕ) (t : State) → next_batch w (s.cells 0) ≡ before ++ i ∷ behind
      → Runs s (filling w (s.cells 0) before) t → (t.pools 0).held < (t.pools 0).slots
  pub whole : (s.queues 0).items ≡ [] → (t : State) × Runs s (filling w (s.cells 0) (next_batch w (s.cells 0))) t

-- after records in which queue and pool gave nothing, and that no writer has a later place than, both are empty
abbrev pub NothingIsLeft : Type 0
NothingIsLeft = (w : Work) (findings : ℕ) (records : List (Entry Done)) (end : State) → IsInPlaceOrder records
    → IsRunOfWork w findings records end
    → (a b : Entry Done) → IsIn a records → IsIn b records → IsFalse a.writer → IsFalse b.writer
    → a.dones ≡ no_item ∷ [] → b.dones ≡ no_task ∷ []
    → Each (λ x. IsTrue x.writer → (x.place ≤ a.place) × (x.place ≤ b.place)) records
    → ((end.queues 0).items ≡ []) × ((end.pools 0).held ≡ 0)

-- where an allowed record doesn't fit, the log alone has too little room, and the findings of all datagrams are more than it may have
abbrev pub FullIsTheLog : Type 0
FullIsTheLog = (w : Work) → IsSoundWork w → (s t : State) → IsLawful w s → (ds : List Done) → IsAllowed w ds → Runs s ds t
    → (values adding : ℕ)
    → (EndsAs 1 t (Full 0 values adding) → ⊥)
    × ((items : List ℕ) → AreAllDatagrams w items → EndsAs 1 t (Full 1 values adding) → (t.logs 0).capacity < length (values_of w items))

-- and the other way round: the findings of all datagrams of a finished run are no more than the log may have
abbrev pub FinishedFitsLog : Type 0
FinishedFitsLog = (w : Work) → IsSoundWork w → (findings : ℕ) (records : List (Entry Done)) (end : State)
    → IsRunOfWork w findings records end → IsFinished w end → (items : List ℕ) → AreAllDatagrams w items
    → length (values_of w items) ≤ findings

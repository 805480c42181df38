-- How a datagram is taken out of the queue and the maps, and its findings appended.
use Rattle.std.specs.Prelude.{◌≡◌, ℕ, ◌<◌, ◌≤◌, Bool, List, [], ◌∷◌, ◌++◌, length, All, Option, Some, None}
use Rattle.run_findings.specs.Datagrams.{AreAllTasks}
use Rattle.run_findings.specs.declared.slots.Slot.{Slot}
use Rattle.run_purpose.specs.declared.item.Item.{Item}
use Rattle.run_purpose.specs.declared.item.Item.TheVariants.{Whole, Group}
use Rattle.run_purpose.specs.declared.purpose.RunPurpose.{RunPurpose}
use Rattle.run_purpose.specs.Words.{value_of}
use Rattle.run_stages.specs.Allowed.{IsAllowed, Appends, walk}
use Rattle.run_stages.specs.Ends.{items_taken}
use Rattle.run_stages.specs.Told.{walked}
use Rattle.run_stages.specs.Work.{Work, IsWhole, IsMember, IsComplete, head_of}
use Rattle.serial_terms.specs.Counts.{times}
use Rattle.serial_terms.specs.declared.call.Call.TheVariants.{MapGet, MapRemove, Dequeue}
use Rattle.serial_terms.specs.declared.call.Done.{Done}
use Rattle.serial_terms.specs.declared.call.Reply.TheVariants.{Nothing, Absent, Value}
use Rattle.serial_terms.specs.Ranges.{IsKept}
use Rattle.serial_terms.specs.Serial.{outside}
use Rattle.serial_terms.specs.Worked.{no_item}
use Rattle.store_meaning.specs.declared.meaning.StoreMeaning.{StoreMeaning}
use Rattle.tx_store.specs.Bodies.{Does}
use Rattle.tx_store.specs.Stores.{StoreView, TxView}
use Rattle.run_bodies.specs.InChild.{DoesInChild}
use Rattle.run_bodies.specs.Records.{TookItem, AreAhead, AreFoundFor, values_at}
use Rattle.run_bodies.specs.RunStores.{IsRunStore, work_of_run}

-- over the store of its run, with findings that are those of their datagrams
abbrev pub MayMatch : {K : Type 0} → RunPurpose → List Slot → Option Item → List ℕ → StoreView (StoreMeaning RunPurpose K) → Type 0
MayMatch run ahead found_for values store = IsRunStore run store × AreAhead run ahead × AreFoundFor (work_of_run run) found_for values

-- ---- datagrams

-- a whole task, or a complete group
abbrev pub IsDatagram : Work → Item → Type 0
IsDatagram w (Whole task) = IsWhole w task
IsDatagram w (Group group) = IsComplete w group

-- the datagram's tasks: a whole task is alone, and those of a complete group have these numbers, in any order
abbrev pub AreTasksOf : Work → Item → List ℕ → Type 0
AreTasksOf w (Whole task) numbers = IsWhole w task
AreTasksOf w (Group group) numbers = AreAllTasks w group numbers

-- the values are those of the datagram's findings, and each can stand in a log
pub record AreFoundIn (w : Work) (item : Item) (values : List ℕ) : Type 0 where
  pub values_are : values ≡ values_at w item
  pub kept : All IsKept values

-- these are tasks of the group, and no more than there are tasks
pub record AreSomeTasks (w : Work) (group : ℕ) (numbers : List ℕ) : Type 0 where
  pub only : (i : ℕ) → 0 < times i numbers → IsMember w group i
  pub few : length numbers ≤ length w.tasks

-- ---- the calls of a matching, in order

-- the queue gave this item, or nothing
abbrev pub dequeued : Option Item → Done
dequeued None = no_item
dequeued (Some item) = outside (Dequeue 0) (Value (value_of item))

-- the word of the group is read and removed
abbrev pub word_taken : ℕ → ℕ → List Done
word_taken group word = outside (MapGet 0 group) (Value word) ∷ outside (MapRemove 0 group) Nothing ∷ []

-- the link from a task is read, and removed where there is one
abbrev pub linked_from : ℕ → Option ℕ → List Done
linked_from i None = outside (MapGet 1 i) Absent ∷ []
linked_from i (Some j) = outside (MapGet 1 i) (Value j) ∷ outside (MapRemove 1 i) Nothing ∷ []

-- a walk has come from the head in the group's word through these tasks
abbrev pub walking : ℕ → ℕ → List ℕ → List Done
walking group word before = dequeued (Some (Group group)) ∷ (word_taken group word ++ walked (head_of word) before)

-- and has come to its end
abbrev pub walked_all : Work → ℕ → ℕ → List ℕ → List Done
walked_all w group word before = dequeued (Some (Group group)) ∷ (word_taken group word ++ walk w (head_of word) before)

-- the calls that take a datagram out of the maps
abbrev pub TakesOut : Work → Item → List Done → Type 0
TakesOut w (Whole task) calls = calls ≡ []
TakesOut w (Group group) calls = (word : ℕ) × (before : List ℕ) × (calls ≡ word_taken group word ++ walk w (head_of word) before)

-- ---- what the parts of a matching leave of the attempt

module _ {M : Type 0} (w : Work) where
  -- a walk from the head in the group's word came to its end, through tasks with these numbers
  pub record HasWalked (group word : ℕ) (old new : TxView M) (numbers : List ℕ) : Type 0 where
    pub before : List ℕ
    pub does : Does old new (walk w (head_of word) before)
    pub all : AreAllTasks w group numbers

  -- the datagram, whose tasks have these numbers, was taken out of the maps
  pub record IsTakenOut (item : Item) (old new : TxView M) (numbers : List ℕ) : Type 0 where
    pub calls : List Done
    pub does : Does old new calls
    pub takes : TakesOut w item calls
    pub tasks : AreTasksOf w item numbers

  -- the values were appended in a child
  pub record HasAppended (values : List ℕ) (old new : TxView M) : Type 0 where
    pub calls : List Done
    pub does : Does old new calls
    pub appends : Appends w values calls

  -- the datagram was matched, as a worker may do it
  pub record IsMatched (item : Item) (old new : TxView M) : Type 0 where
    pub calls : List Done
    pub does : Does old new calls
    pub allowed : IsAllowed w (dequeued (Some item) ∷ calls)
    pub none_taken : items_taken calls ≡ 0

  -- the next datagram was matched, or there was none
  pub record HasTried (old new : TxView M) (taken : Bool) : Type 0 where
    pub calls : List Done
    pub does : Does old new calls
    pub allowed : IsAllowed w calls
    pub took : TookItem calls taken

-- the values were appended in the open child
pub record AppendsInChild {M : Type 0} (values : List ℕ) (old new : TxView M) : Type 0 where
  pub calls : List Done
  pub does : DoesInChild old new calls
  pub appends : (w : Work) → Appends w values calls

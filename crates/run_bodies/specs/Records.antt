-- What the transactions of a run did, by their calls and what they answered.
use Rattle.std.specs.Prelude.{◌≡◌, ◌⊎◌, ℕ, Bool, true, false, List, [], ◌∷◌, Option, Some, None, All, IfSome}
use Rattle.run_findings.specs.declared.slots.Slot.{Slot}
use Rattle.run_findings.specs.Slots.{IsFilled}
use Rattle.run_purpose.specs.declared.item.Item.{Item}
use Rattle.run_purpose.specs.declared.item.Item.TheVariants.{Whole, Group}
use Rattle.run_purpose.specs.declared.purpose.RunPurpose.{RunPurpose}
use Rattle.run_stages.specs.Allowed.{added}
use Rattle.run_stages.specs.Ends.{tasks_taken, items_taken}
use Rattle.run_stages.specs.Work.{Work, IsWhole, IsMember, task_item, group_item}
use Rattle.serial_terms.specs.declared.call.Call.TheVariants.{MapPut, Enqueue}
use Rattle.serial_terms.specs.declared.call.Done.{Done}
use Rattle.serial_terms.specs.declared.call.Reply.TheVariants.{Nothing}
use Rattle.serial_terms.specs.Ranges.{IsKept}
use Rattle.serial_terms.specs.Serial.{in_child}
use Rattle.serial_terms.specs.Worked.{no_item, no_task}

-- ---- taking

-- it took a task, or found none and did nothing else
pub record TookTask (calls : List Done) (taken : Bool) : Type 0 where
  pub none : taken ≡ false → calls ≡ no_task ∷ []
  pub one : taken ≡ true → tasks_taken calls ≡ 1

-- in a child a whole frame is put into the queue, or a fragment is added to its group
abbrev pub HandsOn : Work → ℕ → List Done → Type 0
HandsOn w i calls = (IsWhole w i × (calls ≡ in_child (Enqueue 0 (task_item i)) Nothing ∷ []))
    ⊎ ((h : ℕ) × IsMember w h i × (old : Option ℕ) × (calls ≡ added w h i old))

-- the task is linked to the one that was head before it, if there was one
abbrev pub link_of : ℕ → Option ℕ → List Done
link_of i None = []
link_of i (Some x) = in_child (MapPut 1 i x) Nothing ∷ []

-- the group is put into the queue, if it is ready
abbrev pub ready_of : ℕ → Bool → List Done
ready_of h true = in_child (Enqueue 0 (group_item h)) Nothing ∷ []
ready_of h false = []

-- ---- matching

-- it took an item, or found none and did nothing else
pub record TookItem (calls : List Done) (taken : Bool) : Type 0 where
  pub none : taken ≡ false → calls ≡ no_item ∷ []
  pub one : taken ≡ true → items_taken calls ≡ 1

-- the values of the findings in the datagram that an item stands for
abbrev pub values_at : Work → Item → List ℕ
values_at w (Whole task) = w.task_values task
values_at w (Group group) = w.group_values group

-- the values are those of the item, if there is one, and each can stand in a log
abbrev pub AreFoundFor : Work → Option Item → List ℕ → Type 0
AreFoundFor w None values = Unit {0}
AreFoundFor w (Some item) values = (values ≡ values_at w item) × All IsKept values

-- each slot that has values has those of the whole task of its number
abbrev pub AreAhead : RunPurpose → List Slot → Type 0
AreAhead run slots = All (λ s. IfSome s.values (IsFilled run.rules.now run.bytes.now run.plan.now s.number)) slots

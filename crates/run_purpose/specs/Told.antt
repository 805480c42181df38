-- What the replies that a transaction got so far tell it, whatever other workers do meanwhile: its calls run from a lawful state.
use Rattle.std.specs.Prelude.{◌≡◌, ◌⊎◌, ℕ, ◌<◌, [], ◌∷◌, length, Option, Some}
use Rattle.serial_terms.specs.declared.call.Call.TheVariants.{MapGet, Dequeue, Take}
use Rattle.serial_terms.specs.declared.call.Reply.TheVariants.{Value}
use Rattle.serial_terms.specs.Histories.{Runs}
use Rattle.serial_terms.specs.Serial.{State, found, outside, in_child}
use Rattle.run_stages.specs.Work.{Work, IsWhole, IsMember, IsComplete, task_item, group_item, head_of}
use Rattle.run_purpose.specs.Lawful.{IsLawfulRun}
use Rattle.run_purpose.specs.Words.{FitsWord}

-- the item is that of a whole task, or of a complete group
abbrev pub IsDatagramItem : Work → ℕ → Type 0
IsDatagramItem w x = ((i : ℕ) × (x ≡ task_item i) × IsWhole w i) ⊎ ((h : ℕ) × (x ≡ group_item h) × IsComplete w h)

pub record RepliesTell (w : Work) : Type 0 where
  -- what the pool gave is the number of a task
  pub taken : (s t : State) (i : ℕ) → IsLawfulRun w s → Runs s (outside (Take 0) (Value i) ∷ []) t → i < length w.tasks
  -- the parts of the word that the group of a taken fragment gets are below 2^16, and its old head is a task of the group
  pub added : (s t : State) (h i : ℕ) (old : Option ℕ) → IsLawfulRun w s → IsMember w h i
      → Runs s (outside (Take 0) (Value i) ∷ in_child (MapGet 0 h) (found old) ∷ []) t
      → FitsWord w i old × ((x : ℕ) → old ≡ Some x → IsMember w h (head_of x))
  -- what the queue gave is the item of a datagram
  pub dequeued : (s t : State) (x : ℕ) → IsLawfulRun w s → Runs s (outside (Dequeue 0) (Value x) ∷ []) t → IsDatagramItem w x
  -- its group, where it is one, has a word
  pub worded : (s t : State) (h : ℕ) (old : Option ℕ) → IsLawfulRun w s
      → Runs s (outside (Dequeue 0) (Value (group_item h)) ∷ outside (MapGet 0 h) (found old) ∷ []) t → (x : ℕ) × (old ≡ Some x)

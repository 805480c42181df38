-- Where a run ends, and how much its records did.
use Rattle.std.specs.Prelude.{◌≡◌, ℕ, ◌+◌, ◌<◌, ◌≤◌, List, [], ◌∷◌, length}
use Rattle.serial_terms.specs.declared.call.Call.{Call}
use Rattle.serial_terms.specs.declared.call.Call.TheVariants.{Take, Dequeue, QueueLen}
use Rattle.serial_terms.specs.declared.call.Reply.{Reply}
use Rattle.serial_terms.specs.declared.call.Reply.TheVariants.{Value}
use Rattle.serial_terms.specs.declared.call.Done.{Done}
use Rattle.serial_terms.specs.Counts.{times}
use Rattle.serial_terms.specs.Entries.{Entry, total}
use Rattle.serial_terms.specs.Serial.{State}
use Rattle.run_stages.specs.Work.{Work, IsWhole, IsComplete, given_count, task_item, group_item}

-- nothing is left to do: pool and queue are empty, and every task was given
pub record IsFinished (w : Work) (s : State) : Type 0 where
  pub pool : (s.pools 0).held ≡ 0
  pub queue : (s.queues 0).items ≡ []
  pub given : length w.tasks ≤ given_count w (s.cells 0)

-- the items are those of the datagrams of the work, each once: the whole tasks and the complete groups
pub record AreAllDatagrams (w : Work) (items : List ℕ) : Type 0 where
  pub whole : (i : ℕ) → IsWhole w i → times (task_item i) items ≡ 1
  pub only_whole : (i : ℕ) → 0 < times (task_item i) items → IsWhole w i
  pub group : (h : ℕ) → IsComplete w h → times (group_item h) items ≡ 1
  pub only_group : (h : ℕ) → 0 < times (group_item h) items → IsComplete w h

-- the group is there and isn't complete
pub record IsIncomplete (w : Work) (h : ℕ) : Type 0 where
  pub below : h < w.groups
  pub lacking : IsComplete w h → ⊥

-- 1 for a call that takes a task from a pool, or an item from a queue, and 0 for any other
abbrev pub took_task : Call → Reply → ℕ
took_task (Take p) (Value i) = 1
took_task c r = 0

abbrev pub took_item : Call → Reply → ℕ
took_item (Dequeue q) (Value x) = 1
took_item c r = 0

abbrev pub tasks_taken : List Done → ℕ
tasks_taken [] = 0
tasks_taken (d ∷ ds) = took_task d.call d.reply + tasks_taken ds

abbrev pub items_taken : List Done → ℕ
items_taken [] = 0
items_taken (d ∷ ds) = took_item d.call d.reply + items_taken ds

-- 1 for a record that fills the pool, which alone begins with asking for the queue's length
abbrev pub asks_length : Call → ℕ
asks_length (QueueLen q) = 1
asks_length c = 0

abbrev pub is_fill : List Done → ℕ
is_fill [] = 0
is_fill (d ∷ ds) = asks_length d.call

-- how many of the records fill the pool
abbrev pub fills_made : List (Entry Done) → ℕ
fills_made = total (λ e. is_fill e.dones)

-- how many tasks and items the records took
abbrev pub all_tasks_taken : List (Entry Done) → ℕ
all_tasks_taken = total (λ e. tasks_taken e.dones)

abbrev pub all_items_taken : List (Entry Done) → ℕ
all_items_taken = total (λ e. items_taken e.dones)

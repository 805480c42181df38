-- The records that a worker may commit.
use Rattle.std.specs.Prelude.{◌≡◌, ℕ, ◌+◌, ◌-◌, ◌*◌, ◌<◌, true, ◌==◌, List, [], ◌∷◌, ◌++◌, length, Option, Some, None, if◌then◌else◌}
use Rattle.serial_terms.specs.declared.call.Call.TheVariants.{MapGet, MapPut, MapRemove, Enqueue, Dequeue, QueueLen, Take, Give, AppendPlaced, CellGet, CellPut}
use Rattle.serial_terms.specs.declared.call.Reply.TheVariants.{Nothing, Absent, Value, Flag}
use Rattle.serial_terms.specs.declared.call.Done.{Done}
use Rattle.serial_terms.specs.Counts.{numbers_from}
use Rattle.serial_terms.specs.Serial.{outside, in_child, found}
use Rattle.run_stages.specs.Work.{Work, task, IsWhole, IsMember, end_of, given_count, task_item, group_item, group_word, head_of, bytes_of, total_of}

module _ (w : Work) where
  -- ---- a fragment is added to its group, whose old word is there or not

  abbrev pub new_bytes : ℕ → Option ℕ → ℕ
  new_bytes i None = (task w i).size
  new_bytes i (Some x) = (task w i).size + bytes_of x

  abbrev pub old_total : Option ℕ → ℕ
  old_total None = 0
  old_total (Some x) = total_of x

  abbrev pub new_total : ℕ → Option ℕ → ℕ
  new_total i old = if (task w i).last then end_of w i else old_total old

  abbrev pub new_word : ℕ → Option ℕ → ℕ
  new_word i old = group_word i (new_bytes i old) (new_total i old)

  -- the task that was head is the one before i
  abbrev pub linked : ℕ → Option ℕ → List Done
  linked i None = []
  linked i (Some x) = in_child (MapPut 1 i (head_of x)) Nothing ∷ []

  -- the group is ready where its bytes are its total, which isn't 0
  abbrev pub ready : ℕ → ℕ → ℕ → List Done
  ready h bytes total = if bytes == total then (if total == 0 then [] else in_child (Enqueue 0 (group_item h)) Nothing ∷ []) else []

  abbrev pub added : ℕ → ℕ → Option ℕ → List Done
  added h i old = in_child (MapGet 0 h) (found old) ∷ in_child (MapPut 0 h (new_word i old)) Nothing ∷ (linked i old ++ ready h (new_bytes i old) (new_total i old))

  -- ---- a datagram is matched

  -- from the task i on through the tasks that were added before it, each link removed behind the walk
  abbrev pub walk : ℕ → List ℕ → List Done
  walk i [] = outside (MapGet 1 i) Absent ∷ []
  walk i (j ∷ js) = outside (MapGet 1 i) (Value j) ∷ outside (MapRemove 1 i) Nothing ∷ walk j js

  -- the calls append these values in order, in a child
  abbrev pub Appends : List ℕ → List Done → Type 0
  Appends [] [] = Unit {0}
  Appends [] (d ∷ ds) = ⊥
  Appends (v ∷ vs) [] = ⊥
  Appends (v ∷ vs) (d ∷ ds) = (d.call ≡ AppendPlaced 0 v) × (d.child ≡ true) × Appends vs ds

  -- ---- the next tasks are given

  abbrev pub gives : List ℕ → List Done
  gives [] = []
  gives (i ∷ is) = outside (Give 0 i) (Flag true) ∷ gives is

  abbrev pub next_batch : ℕ → List ℕ
  next_batch f = numbers_from (4096 * (f + 1)) (given_count w (f + 1) - 4096 * (f + 1))

  -- the records that a worker may commit: a whole frame or a fragment is taken, a whole frame or a group is matched,
  -- nothing was in the queue, nothing was in the pool, the next tasks are given
  pub data IsAllowed (ds : List Done) : Type 0 where
    take_whole : (i : ℕ) → IsWhole w i
        → ds ≡ outside (Take 0) (Value i) ∷ in_child (Enqueue 0 (task_item i)) Nothing ∷ [] → IsAllowed ds
    take_fragment : (h i : ℕ) (old : Option ℕ) → IsMember w h i
        → ds ≡ outside (Take 0) (Value i) ∷ added h i old → IsAllowed ds
    match_whole : (i : ℕ) (more : List Done) → IsWhole w i → Appends (w.task_values i) more
        → ds ≡ outside (Dequeue 0) (Value (task_item i)) ∷ more → IsAllowed ds
    match_group : (h x : ℕ) (before : List ℕ) (more : List Done) → h < w.groups → Appends (w.group_values h) more
        → ds ≡ outside (Dequeue 0) (Value (group_item h)) ∷ outside (MapGet 0 h) (Value x) ∷ outside (MapRemove 0 h) Nothing ∷ (walk (head_of x) before ++ more)
        → IsAllowed ds
    nothing_queued : ds ≡ outside (Dequeue 0) Absent ∷ [] → IsAllowed ds
    nothing_pooled : ds ≡ outside (Take 0) Absent ∷ [] → IsAllowed ds
    fill : (f : ℕ) → 4096 * (f + 1) < length w.tasks
        → ds ≡ outside (QueueLen 0) (Value 0) ∷ outside (CellGet 0) (Value f) ∷ outside (CellPut 0 (f + 1)) Nothing ∷ gives (next_batch f)
        → IsAllowed ds

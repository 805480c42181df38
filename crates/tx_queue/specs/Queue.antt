-- The queue that cells stand for, and what each call makes of it.
use Rattle.std.specs.Prelude.{◌≡◌, ◌≢◌, ℕ, ◌+◌, ◌-◌, ◌*◌, ◌%◌, ◌^◌, ◌<◌, ◌≤◌, ◌⊎◌, List, ◌∷◌, take, drop, length, slice_index, slice_get, Option}
use Rattle.cell_table.specs.Cells.{has}
use Rattle.cell_table.specs.Rule.{cells_of}
use Rattle.attempt_lists.specs.Cells.{word_at}
use Rattle.store_layout.specs.States.{head_in, length_in, round_from}
use Rattle.tx_core.specs.Tx.{Attempt}
use Rattle.tx_core.specs.Calls.{waiting}
use Rattle.tx_core.specs.Sequences.{CellSequence, FoundEnd, Makes}
use Rattle.tx_queue.specs.declared.part.QueuePart.{QueuePart}

-- the word of the end
abbrev pub end_in : QueuePart → List ℕ → ℕ
end_in queue cells = slice_index cells queue.end

-- the words of the places of items
abbrev pub ring_in : QueuePart → List ℕ → List ℕ
ring_in queue cells = take queue.capacity (drop (queue.end + 1) cells)

-- the words of the part's cells, that of the end first
abbrev pub words_in : QueuePart → List ℕ → List ℕ
words_in queue cells = take (queue.capacity + 1) (drop queue.end cells)

-- the values: from the head on as many as the length says, round the ring
abbrev pub values_in : QueuePart → List ℕ → List ℕ
values_in queue cells = round_from (ring_in queue cells) (head_in (end_in queue cells)) (length_in (end_in queue cells))

-- The cells stand for a queue: its head is one of the places, and there are no more values than places
pub record IsQueue (queue : QueuePart) (cells : List ℕ) : Type 0 where
  pub in_table : queue.end + queue.capacity < length cells
  pub head : head_in (end_in queue cells) < queue.capacity
  pub within : length_in (end_in queue cells) ≤ queue.capacity

-- the cell is the queue's end or one of its places
abbrev pub IsOfQueue : QueuePart → ℕ → Type 0
IsOfQueue queue c = (queue.end ≤ c) × (c ≤ queue.end + queue.capacity)

-- the queue as a sequence in cells: its end has the head and the length, and each item's word is its value
abbrev pub sequence_of : QueuePart → CellSequence
sequence_of queue = record { part = queue.part; end = queue.end; capacity = queue.capacity; length_of = length_in; cell_of = λ w i. queue.end + 1 + (head_in w + i) % queue.capacity; stored = λ v. v }

-- the cell of the first item, by the word of the end
abbrev pub front_of : QueuePart → ℕ → ℕ
front_of queue word = queue.end + 1 + head_in word % queue.capacity

-- the word of the end once the first item is taken: the head is one place further round the ring, and the length one less
abbrev pub end_after : QueuePart → ℕ → ℕ
end_after queue word = (head_in word % queue.capacity + 1) % queue.capacity * 2 ^ 32 + (length_in word - 1)

abbrev pub MakesOf : {M D : Type 0} → QueuePart → Attempt M D → Attempt M D → (List ℕ → List ℕ → Type 0) → Type 0
MakesOf queue old new P = Makes (IsQueue queue) (values_in queue) queue.part old new P

-- the first value is taken, or x says that there is none
abbrev pub Dequeues : Option ℕ → List ℕ → List ℕ → Type 0
Dequeues x before after = (x ≡ slice_get before 0) × (after ≡ drop 1 before)

module _ {M D : Type 0} (queue : QueuePart) (old new : Attempt M D) where
  -- a dequeue looks at the end, and where by its word the queue has items in its cells, at the first one
  abbrev pub IsFront : ℕ → Type 0
  IsFront c = (c ≡ queue.end) ⊎ ((word : ℕ) × FoundEnd (sequence_of queue) old new word × (0 < length_in word) × (0 < queue.capacity) × (c ≡ front_of queue word))

  -- of its own additions all are left, or all but the first
  abbrev pub LeavesRest : Type 0
  LeavesRest = (waiting queue.part new ≡ waiting queue.part old) ⊎ ((value : ℕ) × (waiting queue.part old ≡ value ∷ waiting queue.part new))

  -- no other cell came to be written or held
  abbrev pub IsEndAlone : Type 0
  IsEndAlone = (c : ℕ) → c ≢ queue.end → (word_at new.writes c ≡ word_at old.writes c) × (has c (cells_of new.pass.view.held) ≡ has c (cells_of old.pass.view.held))

-- The state that the cells of a store stand for.
use Rattle.std.specs.Prelude.{◌≡◌, ℕ, zero, suc, ◌+◌, ◌-◌, ◌/◌, ◌%◌, ◌^◌, ◌<◌, ◌≤◌, List, [], ◌∷◌, length, take, drop, map, slice_index, get_or, All, Option, Some, None}
use Rattle.serial_terms.specs.Counts.{with_at}
use Rattle.serial_terms.specs.Serial.{State, pool_of}
use Rattle.store_layout.specs.Shapes.{Shape, Object, the_map, the_queue, the_pool, the_log, the_cell, cells_of, first_of, size_of, IsCellOf}

-- ---- what the words of one structure stand for

-- a word of a map, a pool or a log: 0 that there is no value, else the value plus 1
abbrev pub value_in : ℕ → Option ℕ
value_in zero = None
value_in (suc v) = Some v

-- the items in slots with these words
abbrev pub items_in : List ℕ → List ℕ
items_in [] = []
items_in (zero ∷ ws) = items_in ws
items_in (suc v ∷ ws) = v ∷ items_in ws

-- n of the words in a ring, from a place on
abbrev pub round_from : List ℕ → ℕ → ℕ → List ℕ
round_from ws at zero = []
round_from ws at (suc n) = slice_index ws (at % length ws) ∷ round_from ws (at + 1) n

-- the end of a queue is its head times 2 ^ 32, plus its length
abbrev pub head_in : ℕ → ℕ
head_in end = end / 2 ^ 32

abbrev pub length_in : ℕ → ℕ
length_in end = end % 2 ^ 32

-- the values of a queue: its item k stands in the cell (head + k) % capacity of the items, as it is
abbrev pub queue_in : List ℕ → List ℕ
queue_in [] = []
queue_in (end ∷ ws) = round_from ws (head_in end) (length_in end)

-- the values of a log: the end is the length, and the entries below it are there
abbrev pub log_in : List ℕ → List ℕ
log_in [] = []
log_in (n ∷ ws) = map (λ w. w - 1) (take n ws)

-- the head is a place of the ring, and the length at most the capacity
abbrev pub IsQueue : List ℕ → Type 0
IsQueue [] = Unit {0}
IsQueue (end ∷ ws) = (head_in end < length ws) × (length_in end ≤ length ws)

-- exactly the entries below the length are there
abbrev pub IsLog : List ℕ → Type 0
IsLog [] = Unit {0}
IsLog (n ∷ ws) = (n ≤ length ws) × All (λ w. 0 < w) (take n ws) × All (λ w. w ≡ 0) (drop n ws)

-- the words stand for such a structure
abbrev pub AreOf : Object → List ℕ → Type 0
AreOf (the_map m) ws = Unit {0}
AreOf (the_queue q) ws = IsQueue ws
AreOf (the_pool p) ws = Unit {0}
AreOf (the_log l) ws = IsLog ws
AreOf (the_cell c) ws = Unit {0}

-- ---- what all cells stand for

module _ (s : Shape) where
  -- the words of a structure. One that isn't there has none
  abbrev pub words_of : Object → List ℕ → List ℕ
  words_of o cells = take (size_of s o) (drop (first_of s o) cells)

  -- a map by the positions of its keys, and a pool as counts
  unfoldable pub state_in : List ℕ → State
  state_in cells = record {
    maps = λ m k. value_in (slice_index (words_of (the_map m) cells) k);
    queues = λ q. record { items = queue_in (words_of (the_queue q) cells); capacity = get_or s.queues q 0 };
    pools = λ p. pool_of (get_or s.pools p 0) (items_in (words_of (the_pool p) cells));
    logs = λ l. record { items = log_in (words_of (the_log l) cells); capacity = get_or s.logs l 0 };
    cells = λ c. slice_index (words_of (the_cell c) cells) 0;
  }

  -- The cells stand for a state
  pub record IsFormed (cells : List ℕ) : Type 0 where
    pub sized : length cells ≡ cells_of s
    pub words : All (λ w. w < 2 ^ 64) cells
    pub parts : (o : Object) → AreOf o (words_of o cells)

  -- The lists have one length, and differ in no cell but the structure's
  pub record DifferOnlyIn (o : Object) (before after : List ℕ) : Type 0 where
    pub sized : length after ≡ length before
    pub outside : (c : ℕ) → (IsCellOf s o c → ⊥) → slice_index after c ≡ slice_index before c

-- the state, but for the structure, which is as in the other state
abbrev pub with_object : State → Object → State → State
with_object s (the_map m) t = record s { maps = with_at s.maps m (t.maps m) }
with_object s (the_queue q) t = record s { queues = with_at s.queues q (t.queues q) }
with_object s (the_pool p) t = record s { pools = with_at s.pools p (t.pools p) }
with_object s (the_log l) t = record s { logs = with_at s.logs l (t.logs l) }
with_object s (the_cell c) t = record s { cells = with_at s.cells c (t.cells c) }

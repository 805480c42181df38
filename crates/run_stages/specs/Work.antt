-- The work of a run: its tasks, the groups that some of them belong to, and what is to be found.
use Rattle.std.specs.Prelude.{◌≡◌, ℕ, zero, suc, ◌+◌, ◌*◌, ◌/◌, ◌%◌, ◌^◌, ◌<◌, ◌≤◌, Bool, false, IsTrue, ◌==◌, List, [], ◌∷◌, ◌++◌, length, get_or, Option, Some, None, if◌then◌else◌}
use Rattle.serial_terms.specs.RunLayout.{room_for, given_of}

-- one task: a whole frame, which has no group, or a fragment of a group, from `start` on for `size` bytes, the last or not
pub record TaskFacts : Type 0 where
  pub group : Option ℕ
  pub start : ℕ
  pub size : ℕ
  pub last : Bool

-- the tasks by their numbers; the number of groups; and the values of the findings of each whole task and of each group
pub record Work : Type 0 where
  pub tasks : List TaskFacts
  pub groups : ℕ
  pub task_values : ℕ → List ℕ
  pub group_values : ℕ → List ℕ

-- the sum of f over the numbers below n
abbrev pub total_below : (ℕ → ℕ) → ℕ → ℕ
total_below f zero = 0
total_below f (suc n) = total_below f n + f n

abbrev pub is_some_of : Option ℕ → ℕ → Bool
is_some_of (Some x) h = x == h
is_some_of None h = false

module _ (w : Work) where
  abbrev pub task : ℕ → TaskFacts
  task i = get_or w.tasks i (record { group = None; start = 0; size = 0; last = false })

  -- the task i is a whole frame
  pub record IsWhole (i : ℕ) : Type 0 where
    pub below : i < length w.tasks
    pub alone : (task i).group ≡ None

  -- the task i is a fragment of the group h
  pub record IsMember (h i : ℕ) : Type 0 where
    pub below : i < length w.tasks
    pub belongs : (task i).group ≡ Some h

  -- the place after a fragment's last byte
  abbrev pub end_of : ℕ → ℕ
  end_of i = (task i).start + (task i).size

  -- the bytes of all fragments of a group
  abbrev pub group_bytes : ℕ → ℕ
  group_bytes h = total_below (λ i. if is_some_of (task i).group h then (task i).size else 0) (length w.tasks)

  -- one fragment of the group is last, and the lengths sum to its end
  pub record IsComplete (h : ℕ) : Type 0 where
    pub ender : ℕ
    pub member : IsMember h ender
    pub last : IsTrue (task ender).last
    pub full : group_bytes h ≡ end_of ender

  -- what a plan of tasks keeps of its groups. That the fragments of a group are disjoint and end where its last one ends,
  -- if it has one, is used through the sum of their lengths alone
  pub record IsSoundWork : Type 0 where
    -- each group has a task, and no task another group
    pub numbered : (h i : ℕ) → IsMember h i → h < w.groups
    pub inhabited : (h : ℕ) → h < w.groups → (i : ℕ) × IsMember h i
    -- fragments have bytes, and end below 2^16
    pub filled : (h i : ℕ) → IsMember h i → 0 < (task i).size
    pub short : (h i : ℕ) → IsMember h i → end_of i < 2 ^ 16
    -- at most one is last, and the lengths sum to at most its end, or to less than 2^16
    pub one_last : (h i j : ℕ) → IsMember h i → IsMember h j → IsTrue (task i).last → IsTrue (task j).last → i ≡ j
    pub packed : (h i : ℕ) → IsMember h i → IsTrue (task i).last → group_bytes h ≤ end_of i
    pub bounded : (h : ℕ) → group_bytes h < 2 ^ 16

  -- ---- sizes and batches

  -- the slots of the pool, and the capacity of the queue
  abbrev pub room : ℕ
  room = room_for (length w.tasks)

  -- the number of tasks that are given after f fills
  abbrev pub given_count : ℕ → ℕ
  given_count f = given_of (length w.tasks) f

-- ---- numbers that stand for datagrams in the queue

abbrev pub task_item : ℕ → ℕ
task_item i = 2 * i

abbrev pub group_item : ℕ → ℕ
group_item h = 2 * h + 1

-- the values of the findings of the datagram that an item stands for, and of several in order
abbrev pub item_values : Work → ℕ → List ℕ
item_values w x = if x % 2 == 0 then w.task_values (x / 2) else w.group_values (x / 2)

abbrev pub values_of : Work → List ℕ → List ℕ
values_of w [] = []
values_of w (x ∷ xs) = item_values w x ++ values_of w xs

-- ---- group words

-- the task added last, the bytes added, and the end of the last fragment where it was added, else 0
abbrev pub group_word : ℕ → ℕ → ℕ → ℕ
group_word head bytes total = head * 2 ^ 32 + bytes * 2 ^ 16 + total

abbrev pub head_of : ℕ → ℕ
head_of x = x / 2 ^ 32

abbrev pub bytes_of : ℕ → ℕ
bytes_of x = x / 2 ^ 16 % 2 ^ 16

abbrev pub total_of : ℕ → ℕ
total_of x = x % 2 ^ 16

-- Datagrams put together from the tasks of a plan (RFC 791, section 3.2).
use Rattle.std.specs.Prelude.{◌≡◌, ◌⊎◌, ℕ, ◌+◌, ◌-◌, ◌≤◌, Bool, true, false, not, ◌&&◌, ◌==◌, nat_le, nat_lt, List, [], ◌∷◌, length, slice_index, slice_get, Option, Some, None, if◌then◌else◌, All, AllPairs, filter, map, filter_map, count_by, sum_by, Contains, IsSomeAnd}
use Rattle.std.specs.List.{list_any, range_with_len}
use Rattle.std.specs.Option.{option_map_or}
use Rattle.capture_terms.specs.declared.plan.Group.{Group}
use Rattle.capture_terms.specs.declared.plan.Task.{Task}

-- The places of a task's data.

-- the place behind it
abbrev pub end_of_task : Task → ℕ
end_of_task task = task.start + task.length

-- whether a place lies in it
abbrev pub holds : ℕ → Task → Bool
holds place task = nat_le task.start place && nat_lt place (end_of_task task)

-- two tasks share no place
abbrev pub AreApart : Task → Task → Type 0
AreApart s t = (end_of_task s ≤ t.start) ⊎ (end_of_task t ≤ s.start)

-- tasks before an end, no two of which share a place
pub record ArePacked (end : ℕ) (tasks : List Task) : Type 0 where
  pub within : All (λ task. end_of_task task ≤ end) tasks
  pub apart : AllPairs AreApart tasks

-- Whole groups.

-- the number of bytes that tasks have together
abbrev pub size_of : List Task → ℕ
size_of tasks = sum_by (λ task. task.length) tasks

-- whether a task belongs to the group of this number
abbrev pub is_member : ℕ → Task → Bool
is_member number task = option_map_or (λ group. group == number) task.group false

-- the tasks of the group of this number, in capture order
abbrev pub members : List Task → ℕ → List Task
members tasks number = filter (is_member number) tasks

-- one of the tasks is last, and together they have as many bytes as there are places before its end
abbrev pub is_complete : List Task → Bool
is_complete tasks = list_any (λ task. task.last && (size_of tasks == end_of_task task)) tasks

-- how many of so many groups have tasks that are not complete
abbrev pub incomplete : List Task → List Group → ℕ
incomplete tasks groups =
    count_by (λ number. not (is_complete (members tasks number))) (range_with_len 0 (length groups))

-- The datagrams.

-- the tasks of the group of this number, where it is complete and begins with the task
abbrev pub group_from : List Task → Task → ℕ → Option (List Task)
group_from tasks task number =
    if option_map_or (λ first. first.frame == task.frame) (slice_get (members tasks number) 0) false
    && is_complete (members tasks number)
    then Some (members tasks number) else None

-- the tasks of the datagram that begins with a task, if one does
abbrev pub datagram_from : List Task → Task → Option (List Task)
datagram_from tasks task = option_map_or (group_from tasks task) task.group (Some (task ∷ []))

-- the datagrams of a plan, each as its tasks, in the order of their first frames
abbrev pub datagrams : List Task → List (List Task)
datagrams tasks = filter_map (datagram_from tasks) tasks

-- The data.

-- the byte of a file that stands at a place of the data that these tasks have: that of the task that
-- holds the place
abbrev pub byte_at : List ℕ → List Task → ℕ → ℕ
byte_at bytes [] place = 0
byte_at bytes (task ∷ tasks) place =
    if holds place task then slice_index bytes (task.from + (place - task.start)) else byte_at bytes tasks place

-- the data of a datagram with these tasks
abbrev pub payload_of : List ℕ → List Task → List ℕ
payload_of bytes tasks = map (byte_at bytes tasks) (range_with_len 0 (size_of tasks))

-- Datagrams that are asked for by the numbers of their tasks.

-- the number is that of a whole datagram's task
pub record IsWholeAt (tasks : List Task) (numbers : List ℕ) (datagram : List Task) : Type 0 where
  pub number : ℕ
  pub task : Task
  pub alone : numbers ≡ number ∷ []
  pub there : slice_get tasks number ≡ Some task
  pub whole : task.group ≡ None
  pub is : datagram ≡ task ∷ []

-- the numbers, in any order, are those of the tasks of a complete group
pub record IsGroupAt (tasks : List Task) (numbers : List ℕ) (datagram : List Task) : Type 0 where
  pub group : ℕ
  pub each : All (λ number. IsSomeAnd (slice_get tasks number) (λ task. is_member group task ≡ true)) numbers
  pub all : (number : ℕ) (task : Task) → slice_get tasks number ≡ Some task → is_member group task ≡ true → Contains numbers number
  pub complete : is_complete (members tasks group) ≡ true
  pub is : datagram ≡ members tasks group

-- the datagram whose tasks have these numbers
abbrev pub IsDatagramAt : List Task → List ℕ → List Task → Type 0
IsDatagramAt tasks numbers datagram = IsWholeAt tasks numbers datagram ⊎ IsGroupAt tasks numbers datagram

-- the tasks of a datagram lie in the file, and fill the places of its data, of which there are at
-- most 65,535
pub record IsSound (bytes : List ℕ) (datagram : List Task) : Type 0 where
  pub there : All (λ task. task.from + task.length ≤ length bytes) datagram
  pub packed : ArePacked (size_of datagram) datagram
  pub short : size_of datagram ≤ 65535

-- What a plan keeps of its groups, and what the numbers by which a datagram is asked for say of its tasks.
use Rattle.std.specs.Prelude.{◌≡◌, ℕ, ◌<◌, ◌≤◌, true, List, ◌∷◌, length, slice_get, Some, All, AllPairs, Contains, IsSomeAnd}
use Rattle.capture_terms.specs.declared.plan.Group.{Group}
use Rattle.capture_terms.specs.declared.plan.Task.{Task}
use Rattle.capture_terms.specs.Datagram.{end_of_task, size_of, members, IsDatagramAt}

-- two tasks are not both the last of one group
abbrev pub AreNotBothLast : Task → Task → Type 0
AreNotBothLast s t = (number : ℕ) → s.group ≡ Some number → t.group ≡ Some number → s.last ≡ true → t.last ≡ true → ⊥

-- the tasks of a plan are grouped by its groups, and those of a group can stand in one datagram
pub record AreGrouped (tasks : List Task) (groups : List Group) : Type 0 where
  -- no task has another group, and each group has a task
  pub numbered : All (λ task. (number : ℕ) → task.group ≡ Some number → number < length groups) tasks
  pub inhabited : (number : ℕ) → number < length groups → (task : Task) × Contains tasks task × (task.group ≡ Some number)
  -- fragments have bytes, and no task ends behind the greatest place
  pub filled : All (λ task. (number : ℕ) → task.group ≡ Some number → 0 < task.length) tasks
  pub short : All (λ task. end_of_task task ≤ 65535) tasks
  -- at most one task of a group is last, and the group has at most as many bytes as there are places before its end
  pub one_last : AllPairs AreNotBothLast tasks
  pub packed : All (λ task. (number : ℕ) → task.group ≡ Some number → task.last ≡ true → size_of (members tasks number) ≤ end_of_task task) tasks
  pub bounded : (number : ℕ) → size_of (members tasks number) ≤ 65535

-- the datagram that is asked for by the numbers of its tasks begins with the task of the least number
abbrev pub LeastIsFirst : Type 0
LeastIsFirst = (tasks : List Task) (numbers : List ℕ) (datagram : List Task) (least : ℕ) (first : Task) → IsDatagramAt tasks numbers datagram
    → Contains numbers least → All (λ number. least ≤ number) numbers → slice_get tasks least ≡ Some first → (others : List Task) × (datagram ≡ first ∷ others)

-- the numbers are those of the datagram's tasks, in any order
pub record AreNumbersOf (tasks : List Task) (numbers : List ℕ) (datagram : List Task) : Type 0 where
  pub each : (number : ℕ) → Contains numbers number → IsSomeAnd (slice_get tasks number) (Contains datagram)
  pub all : (task : Task) → Contains datagram task → (number : ℕ) × (slice_get tasks number ≡ Some task) × Contains numbers number

-- a datagram is asked for by the numbers of its tasks
abbrev pub NumbersAreOfTasks : Type 0
NumbersAreOfTasks = (tasks : List Task) (numbers : List ℕ) (datagram : List Task) → IsDatagramAt tasks numbers datagram → AreNumbersOf tasks numbers datagram

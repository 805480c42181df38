-- Copying the data of tasks to their places.
use Rattle.std.specs.Prelude.{◌≡◌, ℕ, ◌+◌, ◌-◌, ◌≤◌, true, List, length, slice_index, slice_get, Some, IsSomeAnd, All, Contains}
use Rattle.std.specs.Option.{option_map_or}
use Rattle.capture_terms.specs.Datagram.{end_of_task, holds}
use Rattle.capture_terms.specs.declared.plan.Task.{Task}

-- the byte of the file that a task has for a place
abbrev pub byte_of : List ℕ → Task → ℕ → ℕ
byte_of bytes task place = slice_index bytes (task.from + (place - task.start))

-- the bytes of a task stand at its places
abbrev pub Stands : List ℕ → List ℕ → Task → Type 0
Stands bytes whole task = (place : ℕ) → holds place task ≡ true → slice_index whole place ≡ byte_of bytes task place

-- the end of the task of this number
abbrev pub end_at : List Task → ℕ → ℕ
end_at tasks number = option_map_or (λ task. end_of_task task) (slice_get tasks number) 0

-- the task's data lies in the file
abbrev pub IsThere : List ℕ → Task → Type 0
IsThere bytes task = task.from + task.length ≤ length bytes

-- the tasks of these numbers are there, and their data lies in the file and before an end
abbrev pub AreThere : ℕ → List ℕ → List Task → List ℕ → Type 0
AreThere end bytes tasks numbers = All (λ number. IsSomeAnd (slice_get tasks number) (λ task. IsThere bytes task × (end_of_task task ≤ end))) numbers

-- of the tasks of these numbers, those that hold one place have the same byte for it
abbrev pub Agree : List ℕ → List Task → List ℕ → Type 0
Agree bytes tasks numbers =
    (place n m : ℕ) (s t : Task) → Contains numbers n → Contains numbers m → slice_get tasks n ≡ Some s → slice_get tasks m ≡ Some t
    → holds place s ≡ true → holds place t ≡ true → byte_of bytes s place ≡ byte_of bytes t place

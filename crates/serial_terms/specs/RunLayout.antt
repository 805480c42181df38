-- The store of a run of the workers, by the numbers of its tasks, of its groups and of the findings that it may have.
use Rattle.std.specs.Prelude.{ℕ, ◌+◌, ◌*◌, min, max, [], ◌∷◌}
use Rattle.serial_terms.specs.declared.store.Layout.{Layout}
use Rattle.serial_terms.specs.Counts.{numbers_from}

-- the slots of the pool, and the capacity of the queue
abbrev pub room_for : ℕ → ℕ
room_for tasks = min 4096 (max tasks 1)

-- how many of the tasks are given after f fills
abbrev pub given_of : ℕ → ℕ → ℕ
given_of tasks f = min tasks (4096 * (f + 1))

-- map 0 has the groups' words, map 1 the links between their tasks, queue 0 what is to be matched, pool 0 the tasks that
-- are to be taken, log 0 the findings, and plain cell 0 counts the fills. The pool opens with the first batch of tasks
unfoldable pub layout_by : ℕ → ℕ → ℕ → Layout
layout_by tasks groups findings = record {
  maps = max groups 1 ∷ max tasks 1 ∷ [];
  queues = room_for tasks ∷ [];
  pools = record { slots = room_for tasks; items = numbers_from 0 (given_of tasks 0) } ∷ [];
  logs = findings ∷ [];
  cells = 1;
}

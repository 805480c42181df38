-- The tasks of a complete group, by their numbers.
use Rattle.std.specs.Prelude.{ℕ, ◌<◌, List}
use Rattle.serial_terms.specs.Counts.{times}
use Rattle.run_stages.specs.Work.{Work, IsMember, IsComplete}

-- the group is complete, and the numbers are those of its tasks, in any order
pub record AreAllTasks (w : Work) (group : ℕ) (numbers : List ℕ) : Type 0 where
  pub complete : IsComplete w group
  pub all : (i : ℕ) → IsMember w group i → 0 < times i numbers
  pub only : (i : ℕ) → 0 < times i numbers → IsMember w group i

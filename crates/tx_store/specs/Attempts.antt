-- What an attempt's notes tell of the store.
use Rattle.std.specs.Prelude.{◌≡◌, ℕ, ◌+◌, ◌<◌, ◌≤◌, false, List, [], length, take, Some, All}
use Rattle.attempt_lists.specs.Parts.{marked_of}
use Rattle.cell_table.specs.Cells.{AllHold}
use Rattle.serial_terms.specs.Histories.{Runs}
use Rattle.serial_terms.specs.Renaming.{NamedDone, by_key, by_name, SameButKeys}
use Rattle.serial_terms.specs.Ranges.{IsKept}
use Rattle.serial_terms.specs.Serial.{State}
use Rattle.store_layout.specs.Shapes.{Shape}
use Rattle.store_layout.specs.States.{state_in, IsFormed}
use Rattle.store_meaning.specs.Follows.{Progress, Follows}
use Rattle.store_parts.specs.Parts.{progress}
use Rattle.tx_core.specs.Calls.{IsOpen, waiting}
use Rattle.tx_core.specs.Children.{Marked}
use Rattle.tx_core.specs.Tx.{Attempt}

-- In any well-formed cells in which all holds that was observed, the calls run from the state of the cells, with these replies
abbrev pub HasSeen : Shape → List (ℕ × ℕ) → List NamedDone → Type 0
HasSeen s observations dones = (cells : List ℕ) → IsFormed s cells → AllHold cells observations
    → (end : State) × Runs (state_in s cells) (by_name dones) end

-- What waits for the commit can be kept in cells, and waits for a queue or a log that is there
pub record AreWaiting (s : Shape) (waiting : ℕ → List ℕ) : Type 0 where
  pub small : (p : ℕ) → All IsKept (waiting p)
  pub there : (p : ℕ) → length s.queues + length s.logs ≤ p → waiting p ≡ []

-- what the attempt had at the mark
abbrev pub progress_at : {M D : Type 0} → Attempt M D → Marked → Progress
progress_at a m = record { observations = take m.observations a.observations; writes = m.writes; waiting = λ p. marked_of a.additions p }

-- It has what the mark counts, and the calls before the mark run to the state that it had then
pub record TellsAt {M : Type 0} (s : Shape) (a : Attempt M NamedDone) (m : Marked) : Type 0 where
  pub observations : m.observations ≤ length a.observations
  pub notes : m.notes ≤ length a.notes
  pub waits : AreWaiting s (λ p. marked_of a.additions p)
  pub follows : Follows s (progress_at a m) (take m.notes a.notes)

-- The calls noted so far run, and while the attempt is open they run to the state that it has. Each key has a position that it may have. What
-- an open child goes back to is told as well
pub record Tells {M : Type 0} (passes : ℕ → ℕ → Type 0) (s : Shape) (a : Attempt M NamedDone) : Type 0 where
  pub follows : IsOpen a.state → Follows s (progress a) a.notes
  pub seen : HasSeen s a.observations a.notes
  pub named : SameButKeys passes (by_key a.notes) (by_name a.notes)
  pub waits : AreWaiting s (λ p. waiting p a)
  pub early : a.committing ≡ false
  -- a version to draw
  pub left : 0 < a.pass.view.draws
  pub marked : (m : Marked) → a.mark ≡ Some m → TellsAt s a m

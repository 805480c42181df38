-- What an open child goes back to, and how an attempt stands to it.
use Rattle.std.specs.Prelude.{◌≡◌, ℕ, ◌<◌, ◌≤◌, Bool, true, false, List, [], length, take, fold, is_some, Option, Some, None, All}
use Rattle.std.specs.Map.{keys_of}
use Rattle.cell_table.specs.Sorted.{insert_by}
use Rattle.cell_table.specs.Steps.{cell_key}
use Rattle.attempt_lists.specs.Cells.{Entries, word_at}
use Rattle.attempt_lists.specs.Levels.{Levels}
use Rattle.tx_core.specs.declared.child.Mark.{Mark}
use Rattle.tx_core.specs.declared.stop.TxState.{TxState}
use Rattle.tx_core.specs.declared.stop.TxState.TheVariants.{Running, Child, ChildStopped, Stopped}

-- a child is open, stopped or not
abbrev pub is_child : TxState → Bool
is_child Running = false
is_child Child = true
is_child ChildStopped = true
is_child Stopped = false

-- the cells that were locked one after another, in ascending order, each with the version that its lock replaced
abbrev pub held_of : Entries → List (ℕ × ℕ)
held_of entries = fold (λ held e. insert_by cell_key e held) [] entries

-- What an open child goes back to
pub record Marked : Type 0 where
  -- how many observations and notes there were
  pub observations : ℕ
  pub notes : ℕ
  pub writes : Entries
  -- the held cells, each with its version
  pub held : List (ℕ × ℕ)

-- what the mark of an open child says beside the writes of the parent and the cells that were locked, in their order
abbrev pub marked : Option Mark → Entries → Entries → Option Marked
marked None writes locked = None
marked (Some m) writes locked = Some (record { observations = m.observations; notes = m.notes; writes = writes; held = held_of (take m.held locked) })

-- The lists have what the mark says, and a cell that was held at the mark was observed or written before it
pub record IsMarked {D : Type 0} (cells : ℕ) (m : Mark) (seen writes locked : Entries) (noted : List D) : Type 0 where
  pub observations : m.observations ≤ length seen
  pub notes : m.notes ≤ length noted
  pub held : m.held ≤ length locked
  pub written : All (λ c. c < cells) (keys_of writes)
  pub met : (c : ℕ) → word_at (take m.observations seen) c ≡ None → word_at writes c ≡ None → word_at (take m.held locked) c ≡ None

-- An open child has its mark. Without one nothing is written at its level, and a commit has none
pub record IsNested {D : Type 0} (cells : ℕ) (state : TxState) (mark : Option Mark) (committing : Bool) (seen : Entries) (writes : Levels) (locked : Entries) (noted : List D) : Type 0 where
  pub opened : is_some mark ≡ is_child state
  pub before_commit : committing ≡ true → mark ≡ None
  pub alone : mark ≡ None → writes.child ≡ []
  pub marked : (m : Mark) → mark ≡ Some m → IsMarked cells m seen writes.parent locked noted

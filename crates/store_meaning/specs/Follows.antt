-- What an attempt's calls have made of the state so far.
use Rattle.std.specs.Prelude.{◌≡◌, ℕ, ◌+◌, ◌^◌, ◌<◌, List, [], ◌++◌, length, slice_index, nat_lt, All, if◌then◌else◌}
use Rattle.cell_table.specs.Cells.{AllHold, after}
use Rattle.serial_terms.specs.Histories.{Runs}
use Rattle.serial_terms.specs.Renaming.{NamedDone, named, by_name}
use Rattle.serial_terms.specs.Serial.{State, IsReplied, step}
use Rattle.store_layout.specs.Shapes.{Shape, Object, the_map, the_queue, the_pool, the_log, the_cell, IsCellOf}
use Rattle.store_layout.specs.States.{AreOf, words_of, state_in, IsFormed, with_object}

-- What an attempt has observed and will write, each a cell and a value, and the values that wait for its commit: those that
-- wait under the number p are `waiting p`
pub record Progress : Type 0 where
  pub observations : List (ℕ × ℕ)
  pub writes : List (ℕ × ℕ)
  pub waiting : ℕ → List ℕ

-- nothing waits
abbrev pub IsResolved : Progress → Type 0
IsResolved a = (p : ℕ) → a.waiting p ≡ []

module _ (s : Shape) where
  -- the number under which values wait for a queue and for a log: first the queues in the order of their numbers, then the logs
  abbrev pub part_of_log : ℕ → ℕ
  part_of_log l = length s.queues + l

  -- what waits for a queue, which has no part of its own where it isn't there
  abbrev pub waits_for_queue : (ℕ → List ℕ) → ℕ → List ℕ
  waits_for_queue waiting q = if nat_lt q (length s.queues) then waiting q else []

  -- The state of the cells, with the values that wait for the commit behind those of their queues and logs
  unfoldable pub state_with : List ℕ → (ℕ → List ℕ) → State
  state_with cells waiting = record (state_in s cells) {
    queues = λ q. record { items = ((state_in s cells).queues q).items ++ waits_for_queue waiting q; capacity = ((state_in s cells).queues q).capacity };
    logs = λ l. record { items = ((state_in s cells).logs l).items ++ waiting (part_of_log l); capacity = ((state_in s cells).logs l).capacity };
  }

  -- Take any well-formed cells in which the observations hold. They are well formed with the writes laid over them, and the
  -- calls run from the state of the cells to the state that the attempt has: that after the writes, with what waits
  abbrev pub Follows : Progress → List NamedDone → Type 0
  Follows a dones = (cells : List ℕ) → IsFormed s cells → AllHold cells a.observations
      → IsFormed s (after cells a.writes) × Runs (state_in s cells) (by_name dones) (state_with (after cells a.writes) a.waiting)

  -- ---- what changes in one structure

  -- values wait for the structure under this number
  abbrev pub IsPartOf : Object → ℕ → Type 0
  IsPartOf (the_map m) p = ⊥
  IsPartOf (the_queue q) p = (p ≡ q) × (q < length s.queues)
  IsPartOf (the_pool n) p = ⊥
  IsPartOf (the_log l) p = p ≡ part_of_log l
  IsPartOf (the_cell c) p = ⊥

  -- From cells with values that wait to others: the structure's words stand for such a structure, and all else is as before
  pub record ChangesOnly (o : Object) (before after : List ℕ) (waiting later : ℕ → List ℕ) : Type 0 where
    pub sized : length after ≡ length before
    pub outside : (c : ℕ) → (IsCellOf s o c → ⊥) → slice_index after c ≡ slice_index before c
    pub words : All (λ w. w < 2 ^ 64) (words_of s o after)
    pub are : AreOf o (words_of s o after)
    pub waits : (p : ℕ) → (IsPartOf o p → ⊥) → later p ≡ waiting p

  -- Wherever all holds that was observed by the later moment, and the cells are well formed with the earlier writes, the
  -- structure alone is changed
  abbrev pub Changes : Object → Progress → Progress → Type 0
  Changes o old new = (cells : List ℕ) → AllHold cells new.observations → IsFormed s (after cells old.writes)
      → ChangesOnly o (after cells old.writes) (after cells new.writes) old.waiting new.waiting

  -- ---- one call more

  -- The structures may reply so in the one state, and have in the other what they have after the call
  pub record IsStep (done : NamedDone) (before after : State) : Type 0 where
    pub replied : IsReplied before (named done)
    pub leaves : step before (named done) ≡ after

  -- the attempt's state, but for the structure, which is as at the later moment
  abbrev pub with_later : Object → Progress → Progress → List ℕ → State
  with_later o old new cells = with_object (state_with (after cells old.writes) old.waiting) o (state_with (after cells new.writes) new.waiting)

  -- A call about one structure: what was observed is, and wherever all of it holds that structure alone changes, as by the call
  pub record IsCallOn (o : Object) (old new : Progress) (done : NamedDone) : Type 0 where
    pub earlier : (cells : List ℕ) → AllHold cells new.observations → AllHold cells old.observations
    pub changes : Changes o old new
    pub steps : (cells : List ℕ) → AllHold cells new.observations → IsFormed s (after cells old.writes)
        → IsStep done (state_with (after cells old.writes) old.waiting) (with_later o old new cells)

  -- Values that waited for one structure stand in its cells: the state that the attempt has is the same
  pub record IsPlacedOn (o : Object) (old new : Progress) : Type 0 where
    pub earlier : (cells : List ℕ) → AllHold cells new.observations → AllHold cells old.observations
    pub changes : Changes o old new
    pub same : (cells : List ℕ) → AllHold cells new.observations → IsFormed s (after cells old.writes)
        → with_later o old new cells ≡ state_with (after cells old.writes) old.waiting

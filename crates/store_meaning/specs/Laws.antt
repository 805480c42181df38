-- What is true of every attempt on a store, whatever its purpose.
use Rattle.std.specs.Prelude.{◌≡◌, ℕ, List, [], ◌∷◌, ◌++◌}
use Rattle.cell_table.specs.Cells.{AllHold}
use Rattle.serial_terms.specs.Renaming.{NamedDone, by_name}
use Rattle.store_history.specs.Meanings.{Explains}
use Rattle.store_layout.specs.Shapes.{Shape, Object}
use Rattle.store_layout.specs.States.{state_in, IsFormed, with_object}
use Rattle.store_meaning.specs.Follows.{Progress, IsResolved, state_with, Follows, ChangesOnly, IsCallOn, IsPlacedOn}

-- where nothing waits, the state that an attempt has is that of the cells
abbrev pub NothingWaitsBehind : Type 0
NothingWaitsBehind = (s : Shape) (cells : List ℕ) (waiting : ℕ → List ℕ) → ((p : ℕ) → waiting p ≡ []) → state_with s cells waiting ≡ state_in s cells

-- what changes in the cells of one structure and waits for it changes that structure alone
pub record ChangesStayInObject : Type 0 where
  pub formed : (s : Shape) (o : Object) (before after : List ℕ) (waiting waits : ℕ → List ℕ) → ChangesOnly s o before after waiting waits
      → IsFormed s before → IsFormed s after
  pub state : (s : Shape) (o : Object) (before after : List ℕ) (waiting waits : ℕ → List ℕ) → ChangesOnly s o before after waiting waits
      → state_with s after waits ≡ with_object (state_with s before waiting) o (state_with s after waits)

-- how an attempt goes on from its begin to its commit
pub record AttemptsFollow (s : Shape) : Type 0 where
  -- an attempt that has done nothing
  pub begun : (a : Progress) → a.observations ≡ [] → a.writes ≡ [] → IsResolved a → Follows s a []
  -- more was observed
  pub observed : (old new : Progress) (ds : List NamedDone) → ((cells : List ℕ) → AllHold cells new.observations → AllHold cells old.observations)
      → new.writes ≡ old.writes → ((p : ℕ) → new.waiting p ≡ old.waiting p) → Follows s old ds → Follows s new ds
  -- a call was made
  pub called : (o : Object) (old new : Progress) (ds : List NamedDone) (d : NamedDone) → IsCallOn s o old new d → Follows s old ds → Follows s new (ds ++ d ∷ [])
  -- what waited for a structure was placed
  pub placed : (o : Object) (old new : Progress) (ds : List NamedDone) → IsPlacedOn s o old new → Follows s old ds → Follows s new ds
  -- nothing waits any more, and the calls are those of a record that the cells explain
  pub ends : (a : Progress) (ds : List NamedDone) → IsResolved a → Follows s a ds → Explains (IsFormed s) (state_in s) a.observations a.writes (by_name ds)

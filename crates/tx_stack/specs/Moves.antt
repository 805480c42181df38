-- What a move does with two stacks.
use Rattle.std.specs.Prelude.{◌≡◌, ℕ, ◌<◌, ◌≤◌, Bool, true, List, [], ◌∷◌, Option, Result, IfOk}
use Rattle.serial_terms.specs.Renaming.{NamedDone, by_key}
use Rattle.tx_core.specs.declared.stop.Stop.{Stop}
use Rattle.tx_store.specs.Calls.{in_child}
use Rattle.tx_store.specs.Stores.{TxView}
use Rattle.tx_stack.specs.declared.moving.Moved.{Moved}
use Rattle.tx_stack.specs.declared.moving.Moved.TheVariants.{Yes, Empty, Full}
use Rattle.tx_stack.specs.declared.part.StackPart.{StackPart}
use Rattle.tx_stack.specs.Calls.{Ends}
use Rattle.tx_stack.specs.Laws.{move_calls}
use Rattle.tx_stack.specs.Stacks.{counted, shown, StackCall, all_cell_calls, IsItemOf}

module _ (from to : StackPart) where
  -- The calls of a move with this answer. `Empty`: the one stack was found empty. `Full`: its top was read, and the other was found full.
  -- An item: its top was read, put on the other, and then what is on top was taken off
  abbrev pub IsMoveOf : Bool → Moved → List StackCall → Type 0
  IsMoveOf b Empty calls = calls ≡ record { part = from; had = 0; child = b; act = counted } ∷ []
  IsMoveOf b Full calls = (n : ℕ) × (m : ℕ) × (v : ℕ) × (0 < n) × (n ≤ from.capacity) × (to.capacity ≤ m)
      × (calls ≡ record { part = from; had = n; child = b; act = shown v } ∷ record { part = to; had = m; child = b; act = counted } ∷ [])
  IsMoveOf b (Yes v) calls = (n : ℕ) × (m : ℕ) × (k : ℕ) × (item : Option ℕ) × (0 < n) × (n ≤ from.capacity) × (m < to.capacity) × IsItemOf from.capacity k item
      × (calls ≡ move_calls from to b n m k v item)

  -- a child added the calls of such a move
  abbrev pub IsMoveAdded : List NamedDone → Moved → Type 0
  IsMoveAdded added moved = (calls : List StackCall) × IsMoveOf true moved calls × (by_key added ≡ all_cell_calls calls)

  -- what the calls of a move leave
  pub record MovesBetween {M : Type 0} (old new : TxView M) (result : Result Moved Stop) : Type 0 where
    pub calls : List StackCall
    pub ends : Ends old new (λ moved. all_cell_calls calls) result
    pub are : IfOk result (λ moved. IsMoveOf (in_child old.attempt.state) moved calls)

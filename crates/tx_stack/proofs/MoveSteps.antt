-- What the calls of a move leave together.
use Rattle.std.proofs.Common.{◌≡◌, ℕ, ◌<◌, ◌≤◌, List, [], ◌∷◌, ◌++◌, append_assoc, sym, refl, ap, ◌∙◌, subst, arith}
use Rattle.std.proofs.lemmas.Bool.Decides.{nat_tests}
use Rattle.std.specs.Prelude.{Bool, true, false, Option, Some, None, Result, Ok, Err, IfOk, IfErr, IsErrAnd}
use Rattle.cell_table.specs.Pass.{IsSole}
use Rattle.serial_terms.specs.declared.call.Done.{Done}
use Rattle.serial_terms.specs.Entries.{Each, IsIn}
use Rattle.tx_core.specs.declared.stop.Stop.{Stop}
use Rattle.tx_core.specs.declared.stop.Stop.TheVariants.{Memory}
use Rattle.tx_core.specs.declared.stop.TxState.{TxState}
use Rattle.tx_core.specs.declared.stop.TxState.TheVariants.{Running, Child}
use Rattle.store_meaning.specs.declared.meaning.StoreMeaning.{StoreMeaning}
use Rattle.tx_nest.specs.Attempts.{HasAdded, IsBodyStop, GoesOn, EndsAs}
use Rattle.tx_nest.specs.declared.tries.NestEnd.{NestEnd}
use Rattle.tx_nest.specs.declared.tries.NestEnd.TheVariants as nests
use Rattle.tx_core.specs.Calls.{IsOpen}
use Rattle.tx_store.specs.Bodies.{Does}
use Rattle.tx_store.specs.BodyFacts.{does_nested}
use Rattle.tx_store.specs.Calls.{in_child}
use Rattle.tx_store.specs.Children.{view_of, HasMark, GrowsOn}
use Rattle.tx_store.specs.Stores.{TxView}
use Rattle.tx_stack.specs.declared.moving.Moved.{Moved}
use Rattle.tx_stack.specs.declared.moving.Moved.TheVariants.{Yes, Empty, Full}
use Rattle.tx_stack.specs.declared.part.StackPart.{StackPart}
use Rattle.tx_stack.specs.declared.purpose.Stacks.{Stacks}
use Rattle.tx_stack.specs.Calls.{IsStackOf, MayCallStack, Went, Did, WasStopped, IsCalledOn}
use Rattle.tx_stack.specs.CallFacts.{one_call}
use Rattle.tx_stack.specs.Moves.{IsMoveOf, IsMoveAdded, MovesBetween}
use Rattle.tx_stack.specs.Stacks.{counted, pushed, shown, StackCall, cell_calls, all_cell_calls, IsStackCall, pushes, shows, pops, IsPutOn, IsItemOf}
use Rattle.tx_stack.proofs.Steps.{then_called, ready_noted}

full_at : (n capacity : ℕ) → IsPutOn capacity n false → capacity ≤ n
full_at n capacity is = grind (arith, nat_tests)

room_at : (n capacity : ℕ) → IsPutOn capacity n true → n < capacity
room_at n capacity is = grind (arith, nat_tests)

two_calls : (c d : StackCall) → cell_calls c ++ cell_calls d ≡ all_cell_calls (c ∷ d ∷ [])
two_calls c d = ap (λ (ds : List Done). cell_calls c ++ ds) (sym (one_call d))

three_calls : (c d e : StackCall) → (cell_calls c ++ cell_calls d) ++ cell_calls e ≡ all_cell_calls (c ∷ d ∷ e ∷ [])
three_calls c d e = append_assoc (cell_calls c) (cell_calls d) (cell_calls e) ∙ ap (λ (ds : List Done). cell_calls c ++ ds) (two_calls d e)

module _ {M : Type 0} (from to : StackPart) where
  stops : (a b : TxView M) (result : Result Moved Stop) (stop : Stop) → IsErrAnd result (λ s. s ≡ stop) → WasStopped a b stop → MovesBetween from to a b result
  stops a b (Ok moved) stop is was = absurd is
  stops a b (Err s) stop is was = record { calls = []; ends = subst (WasStopped a b) (sym is) was; are = tt }

  pub nothing_there : (a b : TxView M) → IsCalledOn a b from shows (IsItemOf from.capacity) (Ok None) → MovesBetween from to a b (Ok Empty)
  nothing_there a b is =
      let call : ℕ → StackCall = λ n. record { part = from; had = n; child = in_child a.attempt.state; act = counted } in
      record {
        calls = call 0 ∷ [];
        ends = subst (Did a b) (sym (one_call (call 0))) (subst (λ (n : ℕ). Did a b (cell_calls (call n))) is.tells is.ends);
        are = refl;
      }

  module _ (a b d : TxView M) (v : ℕ) (top : IsCalledOn a b from shows (IsItemOf from.capacity) (Ok (Some v))) where
    abbrev first : StackCall
    first = record { part = from; had = top.had; child = in_child a.attempt.state; act = shown v }

    pub no_room : IsCalledOn b d to (pushes v) (IsPutOn to.capacity) (Ok false) → MovesBetween from to a d (Ok Full)
    no_room put =
        let second : StackCall = record { part = to; had = put.had; child = in_child a.attempt.state; act = counted } in
        record {
          calls = first ∷ second ∷ [];
          ends = subst (Did a d) (two_calls first second) (then_called a b d (cell_calls first) top.ends to (pushes v) (IsPutOn to.capacity) (Ok false) put);
          are = (top.had, put.had, v, top.tells.0, top.tells.1, full_at put.had to.capacity put.tells, refl);
        }

    pub stopped_put : (result : Result Moved Stop) (stop : Stop) → IsErrAnd result (λ s. s ≡ stop) → IsCalledOn b d to (pushes v) (IsPutOn to.capacity) (Err stop) → MovesBetween from to a d result
    stopped_put result stop is put = stops a d result stop is (then_called a b d (cell_calls first) top.ends to (pushes v) (IsPutOn to.capacity) (Err stop) put)

    module _ (put : IsCalledOn b d to (pushes v) (IsPutOn to.capacity) (Ok true)) (e : TxView M) where
      abbrev second : StackCall
      second = record { part = to; had = put.had; child = in_child a.attempt.state; act = pushed v }

      two : Did a d (cell_calls first ++ cell_calls second)
      two = then_called a b d (cell_calls first) top.ends to (pushes v) (IsPutOn to.capacity) (Ok true) put

      pub moved : (item : Option ℕ) → IsCalledOn d e from pops (IsItemOf from.capacity) (Ok item) → MovesBetween from to a e (Ok (Yes v))
      moved item last =
          let third : StackCall = record { part = from; had = last.had; child = in_child a.attempt.state; act = pops item } in
          record {
            calls = first ∷ second ∷ third ∷ [];
            ends = subst (Did a e) (three_calls first second third) (then_called a d e (cell_calls first ++ cell_calls second) two from pops (IsItemOf from.capacity) (Ok item) last);
            are = (top.had, put.had, last.had, item, top.tells.0, top.tells.1, room_at put.had to.capacity put.tells, last.tells, refl);
          }

      pub stopped_last : (result : Result Moved Stop) (stop : Stop) → IsErrAnd result (λ s. s ≡ stop) → IsCalledOn d e from pops (IsItemOf from.capacity) (Err stop) → MovesBetween from to a e result
      stopped_last result stop is last = stops a e result stop is (then_called a d e (cell_calls first ++ cell_calls second) two from pops (IsItemOf from.capacity) (Err stop) last)

-- ---- as a child's body asks for them

module _ {M : Type 0} (from to : StackPart) (a b : TxView M) where
  pub went : (result : Result Moved Stop) → MovesBetween from to a b result → Went a b
  went (Ok moved) is = is.ends.went
  went (Err stop) is = is.ends.went

  pub has_added : (result : Result Moved Stop) → MovesBetween from to a b result → a.attempt.state ≡ Child
      → IfOk result (λ out. (b.attempt.state ≡ Child) × HasAdded (λ added. IsMoveAdded from to added out) (view_of a) (view_of b))
  has_added (Ok moved) is child = (
    is.ends.state ∙ child,
    (is.ends.added, is.ends.notes, (is.calls, subst (λ (state : TxState). IsMoveOf from to (in_child state) moved is.calls) child is.are, is.ends.are)),
  )
  has_added (Err stop) is child = tt

  pub is_stopped : (result : Result Moved Stop) → MovesBetween from to a b result → a.attempt.state ≡ Child → HasMark a → IfErr result (IsBodyStop (view_of a) (view_of b))
  is_stopped (Ok moved) is child has = tt
  is_stopped (Err stop) is child has = is.ends.child child has

  pub is_memory : (result : Result Moved Stop) → MovesBetween from to a b result → IfErr result (λ stop. IsSole a.attempt.pass → stop ≡ Memory)
  is_memory (Ok moved) is = tt
  is_memory (Err stop) is = is.ends.cause.sole

-- ---- the calls of a move are calls on stacks

module _ (parts : List StackPart) (from to : StackPart) (b : Bool) where
  by_item : (k : ℕ) (item : Option ℕ) → IsItemOf from.capacity k item → IsIn from parts → IsStackCall parts (record { part = from; had = k; child = b; act = pops item })
  by_item k (Some w) is at = record { part = at; room = is }
  by_item k None is at = record { part = at; room = tt }

  pub move_is_allowed : (moved : Moved) (calls : List StackCall) → IsIn from parts → IsIn to parts → IsMoveOf from to b moved calls → Each (IsStackCall parts) calls
  move_is_allowed Empty calls at other is = subst (Each (IsStackCall parts)) (sym is) (record { part = at; room = tt }, tt)
  move_is_allowed Full calls at other is = subst (Each (IsStackCall parts)) (sym is.6) (record { part = at; room = (is.3, is.4) }, (record { part = other; room = tt }, tt))
  move_is_allowed (Yes v) calls at other is = subst (Each (IsStackCall parts)) (sym is.8)
      (record { part = at; room = (is.4, is.5) }, (record { part = other; room = is.6 }, (by_item is.2 is.3 is.7 at, tt)))

-- ---- what the children of a move leave

module _ {K : Type 0} (from to : StackPart) (a b : TxView (StoreMeaning Stacks K)) where
  -- it was made by a child that was committed
  abbrev WasMade : Result Moved NestEnd → Type 0
  WasMade result = IfOk result (λ moved. (calls : List StackCall) × IsMoveOf from to true moved calls × Does a b (all_cell_calls calls))

  pub was_made : (result : Result Moved NestEnd) → a.attempt.state ≡ Running → GoesOn (view_of a) (view_of b) → GrowsOn a b
      → IfOk result (λ out. ((view_of b).state ≡ Running) × HasAdded (λ added. IsMoveAdded from to added out) (view_of a) (view_of b)) → WasMade result
  was_made (Ok moved) running goes grows ends =
      let made = does_nested (λ added. IsMoveAdded from to added moved) a b running goes grows ends in
      (made.1.0, made.1.1, subst (Does a b) made.1.2 made.2)
  was_made (Err end) running goes grows ends = tt

  pub ready_then : (result : Result Moved NestEnd) → IsStackOf a.store from → IsStackOf a.store to → MayCallStack a → WasMade result → IfOk result (λ moved. MayCallStack b × (b.store ≡ a.store))
  ready_then (Ok moved) one other ready made =
      let does = made.2 in
      ready_noted a b made.0 (move_is_allowed a.store.table.meaning.purpose.parts.items from to true moved made.0 one.part other.part made.1) does.same.store
      (record { open_now = subst IsOpen (sym does.state) ready.callable.open_now; before_commit = does.same.before_commit }) does.noted ready
  ready_then (Err end) one other ready made = tt

  pub refused_as : (tries : ℕ) (ran_out : Type 0) (result : Result Moved NestEnd) → IfErr result (EndsAs tries ran_out (view_of a) (view_of b)) → IfErr result (EndsAs tries (Unit {0}) (view_of a) (view_of b))
  refused_as tries ran_out (Ok moved) ends = tt
  refused_as tries ran_out (Err (nests.Parent stop)) ends = ends
  refused_as tries ran_out (Err (nests.Spent n last)) ends = ends
  refused_as tries ran_out (Err nests.Memory) ends = (ends.0, tt)

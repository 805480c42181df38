-- What the calls of cells that a call on a stack makes leave together.
use Rattle.std.proofs.Common.{◌≡◌, ℕ, zero, suc, ◌<◌, ◌≤◌, List, [], ◌∷◌, ◌++◌, sym, refl, ap, ◌∙◌, subst, arith}
use Rattle.std.proofs.lemmas.Bool.Decides.{nat_tests}
use Rattle.std.specs.Prelude.{Bool, true, Result, Ok, Err, IsErrAnd}
use Rattle.serial_terms.specs.declared.call.Call.TheVariants.{CellGet, CellPut}
use Rattle.serial_terms.specs.declared.call.Reply.TheVariants.{Nothing, Value}
use Rattle.serial_terms.specs.declared.call.Done.{Done}
use Rattle.serial_terms.specs.Entries.{Each}
use Rattle.serial_terms.specs.Histories.{Runs}
use Rattle.serial_terms.specs.Names.{own_calls}
use Rattle.serial_terms.specs.Ranges.{BelowCapacity}
use Rattle.serial_terms.specs.Renaming.{by_key, by_name, SameButKeys}
use Rattle.store_layout.specs.Shapes.{Shape, Object}
use Rattle.store_meaning.specs.declared.meaning.StoreMeaning.{StoreMeaning}
use Rattle.store_parts.specs.Parts.{noted}
use Rattle.tx_core.specs.Calls.{IsOpen, MayCall, stop_in, memory_in}
use Rattle.tx_core.specs.declared.stop.Stop.{Stop}
use Rattle.tx_core.specs.declared.stop.TxState.{TxState}
use Rattle.tx_store.specs.BodyFacts.{by_key_append}
use Rattle.tx_store.specs.Calls.{in_child, IsCalled, done_in}
use Rattle.tx_store.specs.Sees.{SeesHistory}
use Rattle.tx_store.specs.Stores.{StoreView, TxView}
use Rattle.tx_stack.specs.declared.part.StackPart.{StackPart}
use Rattle.tx_stack.specs.declared.purpose.Stacks.{Stacks}
use Rattle.tx_stack.specs.Stacks.{Act, counted, StackCall, cell_calls, all_cell_calls, IsStackCall, IsLawful, IsAllowed, IsLength, IsPutOn}
use Rattle.tx_stack.specs.Calls.{lawful_stacks, allowed_stacks, Did, WasStopped, Ends, IsStackOf, IsCalledOn, MayCallStack}
use Rattle.tx_stack.specs.CallFacts.{allowed_more, one_call, as_stop, ends_called, ends_remembered, ends_then}
use Rattle.tx_stack.specs.Runs.{read_within}

-- what was read of a length is within the capacity: the calls so far run from a lawful state
pub length_within : {K : Type 0} (a b : TxView (StoreMeaning Stacks K)) (p : StackPart) (n : ℕ) (child : Bool) → IsStackOf a.store p → MayCallStack a → b.store ≡ a.store
    → b.attempt.notes ≡ a.attempt.notes ++ noted (CellGet p.base) (Value n) child 0 ∷ [] → SameButKeys BelowCapacity (by_key b.attempt.notes) (by_name b.attempt.notes)
    → SeesHistory lawful_stacks allowed_stacks b.store.table.meaning b.attempt → n ≤ p.capacity
length_within a b p n child stack ready store notes named sees =
    let parts = a.store.table.meaning.purpose.parts.items in
    let get = cell_calls (record { part = p; had = n; child = child; act = counted }) in
    let own = own_calls BelowCapacity (λ c j low. low) (by_key b.attempt.notes) (by_name b.attempt.notes) named in
    let are = own ∙ (ap by_key notes ∙ (by_key_append a.attempt.notes (noted (CellGet p.base) (Value n) child 0 ∷ []) ∙ ap (λ (ds : List Done). ds ++ get) ready.allowed.1.all)) in
    let lawful = subst (λ (s : StoreView (StoreMeaning Stacks _)). IsLawful s.table.meaning.purpose.parts.items sees.state) store sees.there.0 in
    read_within parts p stack.part n child ready.allowed.0 sees.state sees.now lawful.0 lawful.1 ready.allowed.1.each (subst (λ (ds : List Done). Runs sees.state ds sees.now) are sees.run)

module _ {M : Type 0} (s : Shape) (o : Object) (k : ℕ) (a b d : TxView M) (xs : List Done) (x : Did a b xs) where
  -- a call of a cell behind others
  pub then_get : (cell : ℕ) (result : Result ℕ Stop)
      → IsCalled s o k b d (done_in (λ v. noted (CellGet cell) (Value v) (in_child b.attempt.state) 0) result) (stop_in result)
      → Ends a d (λ v. xs ++ record { call = CellGet cell; reply = Value v; child = in_child a.attempt.state } ∷ []) result
  then_get cell result is = ends_then a b d xs (λ v. record { call = CellGet cell; reply = Value v; child = in_child a.attempt.state } ∷ []) result x
      (subst (λ (state : TxState). Ends b d (λ v. record { call = CellGet cell; reply = Value v; child = in_child state } ∷ []) result) x.state
      (ends_called s o k b d (λ v. noted (CellGet cell) (Value v) (in_child b.attempt.state) 0) result x.went.same.before_commit is))

  pub then_put : {A E : Type 0} (cell v : ℕ) (result : Result A E)
      → IsCalled s o k b d (done_in (λ _. noted (CellPut cell v) Nothing (in_child b.attempt.state) 0) result) (memory_in result)
      → Ends a d (λ _. xs ++ record { call = CellPut cell v; reply = Nothing; child = in_child a.attempt.state } ∷ []) (as_stop result)
  then_put cell v result is = ends_then a b d xs (λ _. record { call = CellPut cell v; reply = Nothing; child = in_child a.attempt.state } ∷ []) (as_stop result) x
      (subst (λ (state : TxState). Ends b d (λ _. record { call = CellPut cell v; reply = Nothing; child = in_child state } ∷ []) (as_stop result)) x.state
      (ends_remembered s o k b d (λ _. noted (CellPut cell v) Nothing (in_child b.attempt.state) 0) result x.went.same.before_commit is))

-- a call on a stack behind other calls
pub then_called : {M A : Type 0} (a b d : TxView M) (xs : List Done) → Did a b xs → (p : StackPart) (act : A → Act) (Tells : ℕ → A → Type 0) (result : Result A Stop)
    → (is : IsCalledOn b d p act Tells result) → Ends a d (λ answer. xs ++ cell_calls (record { part = p; had = is.had; child = in_child a.attempt.state; act = act answer })) result
then_called a b d xs x p act Tells result is = ends_then a b d xs (λ answer. cell_calls (record { part = p; had = is.had; child = in_child a.attempt.state; act = act answer })) result x
    (subst (λ (state : TxState). Ends b d (λ answer. cell_calls (record { part = p; had = is.had; child = in_child state; act = act answer })) result) x.state is.ends)

module _ {M : Type 0} (a b : TxView M) (p : StackPart) where
  -- the length was read
  pub did_count : (n : ℕ) → IsCalledOn a b p (λ n. counted) (IsLength p.capacity) (Ok n)
      → Did a b (cell_calls (record { part = p; had = n; child = in_child a.attempt.state; act = counted })) × (n ≤ p.capacity)
  did_count n is = subst (λ (m : ℕ). Did a b (cell_calls (record { part = p; had = m; child = in_child a.attempt.state; act = counted })) × (m ≤ p.capacity)) (sym is.tells.0) (is.ends, is.tells.1)

  -- a call of a cell was stopped, and so is that on the stack
  pub stopped_behind : {A : Type 0} (f : A → Act) (P : ℕ → A → Type 0) (result : Result A Stop) (stop : Stop) → IsErrAnd result (λ s. s ≡ stop) → WasStopped a b stop → IsCalledOn a b p f P result
  stopped_behind f P (Ok answer) stop is was = absurd is
  stopped_behind f P (Err s) stop is was = record { had = 0; ends = subst (WasStopped a b) (sym is) was; tells = tt }

pub some_item : (n : ℕ) → (n ≡ 0 → ⊥) → 0 < n
some_item zero h = absurd (h refl)
some_item (suc n) h = omega arith

pub is_put_on : (n capacity : ℕ) → n < capacity → IsPutOn capacity n true
is_put_on n capacity room = grind (arith, nat_tests)

-- a call on a stack may follow again, on the same store, once allowed calls were noted
pub ready_noted : {K : Type 0} (a b : TxView (StoreMeaning Stacks K)) (calls : List StackCall) → Each (IsStackCall a.store.table.meaning.purpose.parts.items) calls → b.store ≡ a.store → MayCall b.attempt
    → by_key b.attempt.notes ≡ by_key a.attempt.notes ++ all_cell_calls calls → MayCallStack a → MayCallStack b × (b.store ≡ a.store)
ready_noted a b calls each store callable noted ready =
    let parts = a.store.table.meaning.purpose.parts.items in
    let more = allowed_more parts (by_key a.attempt.notes) calls ready.allowed each in (
      record {
        callable = callable;
        allowed = subst (λ (s : StoreView (StoreMeaning Stacks _)). IsAllowed s.table.meaning.purpose.parts.items (by_key b.attempt.notes)) (sym store) (subst (IsAllowed parts) (sym noted) more);
      },
      store,
    )

pub ready_after : {K : Type 0} (a b : TxView (StoreMeaning Stacks K)) (c : StackCall) → IsStackCall a.store.table.meaning.purpose.parts.items c → Did a b (cell_calls c)
    → MayCallStack a → MayCallStack b × (b.store ≡ a.store)
ready_after a b c is x ready = ready_noted a b (c ∷ []) (is, tt) x.went.same.store
    (record { open_now = subst IsOpen (sym x.state) ready.callable.open_now; before_commit = x.went.same.before_commit })
    (ap by_key x.notes ∙ (by_key_append a.attempt.notes x.added ∙ ap (λ (ds : List Done). by_key a.attempt.notes ++ ds) (x.are ∙ sym (one_call c)))) ready

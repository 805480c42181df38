-- Calls of cells and of stacks one after another, for the proofs of this crate and of those above.
use Rattle.std.proofs.Common.{◌≡◌, ℕ, List, [], ◌∷◌, ◌++◌, append_assoc, sym, refl, ap, ◌∙◌, subst}
use Rattle.std.proofs.lemmas.List.{append-nil}
use Rattle.std.specs.Prelude.{false, Option, Some, None, Result, Ok, Err}
use Rattle.serial_terms.specs.declared.call.Done.{Done}
use Rattle.serial_terms.specs.Entries.{Each}
use Rattle.serial_terms.specs.Facts.{each_append}
use Rattle.serial_terms.specs.Renaming.{NamedDone, by_key}
use Rattle.store_layout.specs.Shapes.{Shape, Object, IsCellOf}
use Rattle.store_meaning.specs.declared.meaning.StoreMeaning.{StoreMeaning}
use Rattle.tx_core.specs.Calls.{IsOpen, stop_in, memory_in, stopped_from}
use Rattle.tx_core.specs.declared.stop.Stop.{Stop}
use Rattle.tx_core.specs.declared.stop.Stop.TheVariants.{Memory}
use Rattle.tx_nest.specs.AttemptLaws.{stays_then, stopped_then}
use Rattle.tx_store.specs.declared.run.BodyStop.TheVariants as stops
use Rattle.tx_store.specs.Bodies.{NoMap, Acts, in_body}
use Rattle.tx_store.specs.BodyFacts.{by_key_append, same_then, same_called, stops_after, stops_called}
use Rattle.tx_store.specs.Calls.{IsCalled, done_in}
use Rattle.tx_store.specs.ChildLaws.{keys_same, grows_then, called_in_child, stopped_in_child}
use Rattle.tx_store.specs.Children.{view_of}
use Rattle.tx_store.specs.Runs.{IsFresh}
use Rattle.tx_store.specs.Stores.{TxView}
use Rattle.tx_stack.specs.declared.part.StackPart.{StackPart}
use Rattle.tx_stack.specs.declared.purpose.Stacks.{Stacks}
use Rattle.tx_stack.specs.Stacks.{StackCall, cell_calls, all_cell_calls, IsStackCall, IsAllowed}
use Rattle.tx_stack.specs.Calls.{MayCallStack, Went, Did, WasStopped, Ends}

-- ---- allowed records

calls_append : (cs ds : List StackCall) → all_cell_calls (cs ++ ds) ≡ all_cell_calls cs ++ all_cell_calls ds
calls_append [] ds = refl
calls_append (c ∷ cs) ds = ap (λ (es : List Done). cell_calls c ++ es) (calls_append cs ds) ∙ sym (append_assoc (cell_calls c) (all_cell_calls cs) (all_cell_calls ds))

-- behind allowed calls may stand those that are read as further calls on stacks
pub allowed_more : (parts : List StackPart) (dones : List Done) (calls : List StackCall) → IsAllowed parts dones → Each (IsStackCall parts) calls → IsAllowed parts (dones ++ all_cell_calls calls)
allowed_more parts dones calls allowed each = (
  allowed.0 ++ calls,
  record {
    each = each_append (IsStackCall parts) allowed.0 calls allowed.1.each each;
    all = ap (λ (ds : List Done). ds ++ all_cell_calls calls) allowed.1.all ∙ sym (calls_append allowed.0 calls);
  },
)

pub one_call : (c : StackCall) → all_cell_calls (c ∷ []) ≡ cell_calls c
one_call c = append-nil (cell_calls c)

-- a fresh attempt may call
pub ready_fresh : {K : Type 0} (t : TxView (StoreMeaning Stacks K)) → IsFresh t.attempt → MayCallStack t
ready_fresh t fresh = record {
  callable = record { open_now = subst IsOpen (sym fresh.running) refl; before_commit = fresh.before_commit };
  allowed = ([], record { each = tt; all = ap by_key fresh.notes });
}

-- ---- what calls leave

-- what a call that answers nothing but want of memory answers as one that may be stopped
abbrev pub as_stop : {A E : Type 0} → Result A E → Result A Stop
as_stop (Ok answer) = Ok answer
as_stop (Err memory) = Err Memory

module _ {M : Type 0} where
  pub went_then : (a b d : TxView M) → Went a b → Went b d → Went a d
  went_then a b d x y = record {
    same = same_then a b d x.same y.same;
    child = λ has.
        let p = x.child has in
        let q = y.child p.1 in
        (stays_then (view_of a) (view_of b) (view_of d) p.0 q.0, q.1, grows_then a b d p.2 q.2);
  }

  pub did_then : (a b d : TxView M) (xs ys : List Done) → Did a b xs → Did b d ys → Did a d (xs ++ ys)
  did_then a b d xs ys x y = record {
    went = went_then a b d x.went y.went;
    state = y.state ∙ x.state;
    added = x.added ++ y.added;
    notes = y.notes ∙ (ap (λ (ds : List NamedDone). ds ++ y.added) x.notes ∙ append_assoc a.attempt.notes x.added y.added);
    are = by_key_append x.added y.added ∙ (λ i. x.are i ++ y.are i);
  }

  pub stopped_later : (a b d : TxView M) (xs : List Done) (stop : Stop) → Did a b xs → WasStopped b d stop → WasStopped a d stop
  stopped_later a b d xs stop x y = record {
    went = went_then a b d x.went y.went;
    state = y.state ∙ ap stopped_from x.state;
    cause = (stops_after {full = NoMap} a b d (stops.Stop stop) x.went.same (record { same = y.went.same; cause = y.cause; full = tt })).cause;
    child = λ is_child has. let p = x.went.child has in stopped_then (view_of a) (view_of b) (view_of d) stop p.0 (y.child (x.state ∙ is_child) p.1);
  }

  pub ends_then : {A : Type 0} (a b d : TxView M) (xs : List Done) (calls : A → List Done) (result : Result A Stop) → Did a b xs → Ends b d calls result → Ends a d (λ answer. xs ++ calls answer) result
  ends_then a b d xs calls (Ok answer) x y = did_then a b d xs (calls answer) x y
  ends_then a b d xs calls (Err stop) x y = stopped_later a b d xs stop x y

  went_called : (s : Shape) (o : Object) (n : ℕ) (a b : TxView M) (dones : List NamedDone) (stop : Option Stop) → a.attempt.committing ≡ false → IsCalled s o n a b dones stop → Went a b
  went_called s o n a b dones stop early is = record {
    same = same_called (IsCellOf s o) n a b stop is.holds is.same.store (is.same.committing ∙ early) (keys_same a.keys b.keys is.same.keys);
    child = λ has. called_in_child s o n a b dones stop is early has;
  }

  did_called : (s : Shape) (o : Object) (n : ℕ) (a b : TxView M) (d : NamedDone) → a.attempt.committing ≡ false → IsCalled s o n a b (d ∷ []) None → Did a b (d.done ∷ [])
  did_called s o n a b d early is = record { went = went_called s o n a b (d ∷ []) None early is; state = is.holds.ends; added = d ∷ []; notes = is.notes; are = refl }

  stopped_called : (s : Shape) (o : Object) (n : ℕ) (a b : TxView M) (stop : Stop) → a.attempt.committing ≡ false → IsCalled s o n a b [] (Some stop) → WasStopped a b stop
  stopped_called s o n a b stop early is =
      let went = went_called s o n a b [] (Some stop) early is in
      record {
        went = went;
        state = is.holds.ends.state;
        cause = (stops_called {full = NoMap} (IsCellOf s o) n a b stop is.holds went.same).cause;
        child = λ is_child has. stopped_in_child s o n a b [] stop is is_child;
      }

  -- a call of a cell
  pub ends_called : {A : Type 0} (s : Shape) (o : Object) (n : ℕ) (a b : TxView M) (told : A → NamedDone) (result : Result A Stop) → a.attempt.committing ≡ false
      → IsCalled s o n a b (done_in told result) (stop_in result) → Ends a b (λ answer. (told answer).done ∷ []) result
  ends_called s o n a b told (Ok answer) early is = did_called s o n a b (told answer) early is
  ends_called s o n a b told (Err stop) early is = stopped_called s o n a b stop early is

  pub ends_remembered : {A E : Type 0} (s : Shape) (o : Object) (n : ℕ) (a b : TxView M) (told : A → NamedDone) (result : Result A E) → a.attempt.committing ≡ false
      → IsCalled s o n a b (done_in told result) (memory_in result) → Ends a b (λ answer. (told answer).done ∷ []) (as_stop result)
  ends_remembered s o n a b told (Ok answer) early is = did_called s o n a b (told answer) early is
  ends_remembered s o n a b told (Err memory) early is = stopped_called s o n a b Memory early is

  -- of the attempt of a body
  pub acts : {A : Type 0} (full : ℕ → ℕ → Type 0) (a b : TxView M) (calls : A → List Done) (result : Result A Stop) → Ends a b calls result → Acts full a b calls (in_body result)
  acts full a b calls (Ok answer) x = record {
    same = x.went.same;
    state = x.state;
    noted = ap by_key x.notes ∙ (by_key_append a.attempt.notes x.added ∙ ap (λ (ds : List Done). by_key a.attempt.notes ++ ds) x.are);
  }
  acts full a b calls (Err stop) x = record { same = x.went.same; cause = x.cause; full = tt }

-- Calls of a body outside of any child.
use Rattle.std.proofs.Common.{◌≡◌, ℕ, List, [], ◌∷◌, ◌++◌, refl, sym, ap, ◌∙◌, subst, arith}
use Rattle.std.specs.Prelude.{Result}
use Rattle.serial_terms.specs.declared.call.Call.{Call}
use Rattle.serial_terms.specs.declared.call.Done.{Done}
use Rattle.serial_terms.specs.declared.call.Reply.{Reply}
use Rattle.serial_terms.specs.Renaming.{by_key}
use Rattle.serial_terms.specs.Serial.{outside}
use Rattle.store_layout.specs.Shapes.{Shape, Object}
use Rattle.store_parts.specs.Parts.{noted}
use Rattle.tx_core.specs.Calls.{MayCall, MayCommit, stop_in}
use Rattle.tx_core.specs.declared.stop.Stop.{Stop}
use Rattle.tx_core.specs.declared.stop.Stop.TheVariants.{Memory}
use Rattle.tx_core.specs.declared.stop.TxState.{TxState}
use Rattle.tx_map.specs.Calls.{IsFull}
use Rattle.tx_map.specs.declared.part.MapStop.{MapStop}
use Rattle.tx_store.specs.Bodies.{NoMap, Does, StopsWith, Acts, in_body, map_in_body}
use Rattle.tx_store.specs.BodyFacts.{acts_called, acts_keyed, done_of}
use Rattle.tx_store.specs.Calls.{IsCalled, done_in, in_child}
use Rattle.tx_store.specs.declared.run.BodyStop.TheVariants as stops
use Rattle.tx_store.specs.MapCalls.{Told, IsCalledWithKey}
use Rattle.tx_store.specs.Stores.{TxView}

module _ {M : Type 0} where
  pub may_call : (a : TxView M) → MayCommit a.attempt → MayCall a.attempt
  may_call a may = record { open_now = rw may.running refl; before_commit = may.before_commit }

  pub may_go_on : (a b : TxView M) (calls : List Done) → MayCommit a.attempt → Does a b calls → MayCommit b.attempt
  may_go_on a b calls may does = record { running = does.state ∙ may.running; before_commit = does.same.before_commit }

  pub acts_outside : {A : Type 0} (s : Shape) (o : Object) (n : ℕ) (a b : TxView M) (call : Call) (reply : A → Reply) (result : Result A Stop) → MayCommit a.attempt
      → IsCalled s o n a b (done_in (λ x. noted call (reply x) (in_child a.attempt.state) 0) result) (stop_in result) → Acts NoMap a b (λ x. outside call (reply x) ∷ []) (in_body result)
  acts_outside s o n a b call reply result may is =
      subst (λ (state : TxState). Acts NoMap a b (λ x. done_of (record { call = call; reply = reply x }) (in_child state) ∷ []) (in_body result)) may.running
      (acts_called NoMap s o n a b (λ x. noted call (reply x) (in_child a.attempt.state) 0) result may.before_commit is)

  -- a call on a map that has a place for its key
  pub acts_outside_keyed : {A : Type 0} (passes : ℕ → ℕ → Type 0) (s : Shape) (m key n : ℕ) (a b : TxView M) (told : A → Told) (result : Result A MapStop) → MayCommit a.attempt
      → (IsFull result → ⊥) → IsCalledWithKey passes s m key n a b told result → Acts NoMap a b (λ x. outside (told x).call (told x).reply ∷ []) (map_in_body m result)
  acts_outside_keyed {A} passes s m key n a b told result may free is =
      subst (λ (state : TxState). Acts NoMap a b (λ x. done_of (told x) (in_child state) ∷ []) (map_in_body m result)) may.running
      (acts_keyed NoMap passes s m key n a b told result may.before_commit (λ capacity full. free (subst (λ (r : Result A MapStop). IsFull r) (sym full) tt)) is)

  -- after these calls memory of the body's own may be wanting
  pub wants_memory : (a b : TxView M) (calls : List Done) → Does a b calls → StopsWith NoMap a b (stops.Stop Memory)
  wants_memory a b calls does = record {
    same = does.same;
    cause = record { version = a.attempt.version; low = omega arith; high = does.same.version; caused = tt; sole = λ alone. refl };
    full = tt;
  }

  pub noted_then : (a b : TxView M) (before calls : List Done) → by_key a.attempt.notes ≡ before → Does a b calls → by_key b.attempt.notes ≡ before ++ calls
  noted_then a b before calls is does = does.noted ∙ ap (λ (ds : List Done). ds ++ calls) is

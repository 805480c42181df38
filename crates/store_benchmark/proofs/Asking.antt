-- What calls leave of an attempt on the store of the workloads.
use Rattle.std.proofs.Common.{◌≡◌, ℕ, List, [], ◌∷◌, ◌++◌, map, take, get_or, length, suc, ◌+◌, ◌<◌, Result, Ok, Err, None, false, IfOk, refl, sym, ◌∙◌, ap, subst, arith}
use Rattle.std.proofs.lemmas.List.{map-append}
use Rattle.std.proofs.Math.Seq.{take-suc}
use Rattle.serial_terms.specs.declared.call.Call.{Call}
use Rattle.serial_terms.specs.declared.call.Done.{Done}
use Rattle.serial_terms.specs.declared.call.Reply.{Reply}
use Rattle.serial_terms.specs.Renaming.{NamedDone, by_key}
use Rattle.store_layout.specs.Shapes.{Object}
use Rattle.store_meaning.specs.declared.meaning.StoreMeaning.{StoreMeaning}
use Rattle.store_parts.specs.Parts.{noted}
use Rattle.tx_map.specs.declared.part.MapStop.{MapStop}
use Rattle.tx_core.specs.declared.stop.TxState.TheVariants.{Running}
use Rattle.tx_store.specs.Bodies.{StopsWith, AnyMap, of_map}
use Rattle.tx_store.specs.BodyFacts.{acts_called, acts_keyed, does_nothing, does_then, stops_after}
use Rattle.tx_store.specs.declared.run.BodyStop.{BodyStop}
use Rattle.tx_store.specs.Calls.{IsCalled, in_child}
use Rattle.tx_store.specs.MapCalls.{Told, IsCalledWithKey}
use Rattle.tx_store.specs.Runs.{IsFresh}
use Rattle.tx_store.specs.Stores.{TxView}
use Rattle.store_benchmark.specs.Asked.{asked, Asked, Asks}
use Rattle.store_benchmark.specs.Opened.{IsReady}

module _ {P K : Type 0} (a b : TxView (StoreMeaning P K)) where
  -- ---- one call, outside of children

  module _ (r : IsReady a) (call : Call) where
    pub called : (reply : Reply) (o : Object) (n : ℕ) → IsCalled a.store.table.meaning.plan o n a b (noted call reply (in_child a.attempt.state) 0 ∷ []) None → Asked a b (call ∷ [])
    called reply o n is = record {
      dones = _;
      does = acts_called {A = Unit {0}} AnyMap a.store.table.meaning.plan o n a b (λ x. noted call reply (in_child a.attempt.state) 0) (Ok tt) r.may.before_commit is;
      are = refl;
    }

    pub keyed : {A : Type 0} (passes : ℕ → ℕ → Type 0) (reply : A → Reply) (m key n : ℕ) (x : A) → IsCalledWithKey passes a.store.table.meaning.plan m key n a b (λ x. record { call = call; reply = reply x }) (Ok x) → Asked a b (call ∷ [])
    keyed passes reply m key n x is = record {
      dones = _;
      does = acts_keyed AnyMap passes a.store.table.meaning.plan m key n a b (λ x. record { call = call; reply = reply x }) (Ok x) r.may.before_commit (λ capacity full. tt) is;
      are = refl;
    }

    pub key_stopped : {A : Type 0} (passes : ℕ → ℕ → Type 0) (told : A → Told) (m key n : ℕ) (stop : MapStop) (end : BodyStop) → end ≡ of_map m stop
        → IsCalledWithKey passes a.store.table.meaning.plan m key n a b told (Err stop) → StopsWith AnyMap a b end
    key_stopped passes told m key n stop end is called =
        subst (λ (e : BodyStop). StopsWith AnyMap a b e) (sym is) (acts_keyed AnyMap passes a.store.table.meaning.plan m key n a b told (Err stop) r.may.before_commit (λ capacity full. tt) called)

-- one call more
pub one_more : (f : ℕ → Call) (keys : List ℕ) (i k d : ℕ) → i < length keys → k ≡ get_or keys i d → map f (take i keys) ++ f k ∷ [] ≡ map f (take (i + 1) keys)
one_more f keys i k d low is =
    let next : suc i ≡ i + 1 = omega arith in
    ap (λ (x : ℕ). map f (take i keys) ++ f x ∷ []) is ∙ (sym (ap (map f) (take-suc keys i d low) ∙ map-append f (take i keys) (get_or keys i d ∷ [])) ∙ ap (λ (n : ℕ). map f (take n keys)) next)

module _ {M : Type 0} where
  pub asked_nothing : (a : TxView M) → a.attempt.committing ≡ false → Asked a a []
  asked_nothing a early = record { dones = []; does = does_nothing a early; are = refl }

  pub asked_then : (a b d : TxView M) (xs ys : List Call) → Asked a b xs → Asked b d ys → Asked a d (xs ++ ys)
  asked_then a b d xs ys x y = record {
    dones = x.dones ++ y.dones;
    does = does_then a b d x.dones y.dones x.does y.does;
    are = map-append (λ (d : Done). d.call) x.dones y.dones ∙ (ap (λ (cs : List Call). cs ++ asked y.dones) x.are ∙ ap (λ (cs : List Call). xs ++ cs) y.are);
  }

  pub stopped_after : (a b d : TxView M) (xs : List Call) (stop : BodyStop) → Asked a b xs → StopsWith AnyMap b d stop → StopsWith AnyMap a d stop
  stopped_after a b d xs stop x is = stops_after a b d stop x.does.same is

  pub asks_then : {A : Type 0} (a b d : TxView M) (xs : List Call) (calls : A → List Call) (result : Result A BodyStop) → Asked a b xs → Asks b d calls result → Asks a d (λ answer. xs ++ calls answer) result
  asks_then a b d xs calls (Ok answer) first next = asked_then a b d xs (calls answer) first next
  asks_then a b d xs calls (Err stop) first next = stopped_after a b d xs stop first next

  -- a body that had done nothing ran by these calls
  pub ran : {O : Type 0} (a b : TxView M) (calls : O → List Call) (result : Result O BodyStop) → IsFresh a.attempt → Asks a b calls result
      → IfOk result (λ out. (b.attempt.state ≡ Running) × Unit {0} × (asked (by_key b.attempt.notes) ≡ calls out))
  ran a b calls (Ok out) f d = (
    d.does.state ∙ f.running,
    tt,
    ap asked (d.does.noted ∙ ap (λ (ns : List NamedDone). by_key ns ++ d.dones) f.notes) ∙ d.are,
  )
  ran a b calls (Err stop) f d = tt

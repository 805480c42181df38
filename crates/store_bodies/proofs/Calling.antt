-- What calls leave of an attempt on the store of a bank.
use Rattle.std.proofs.Common.{◌≡◌, ℕ, List, [], ◌∷◌, ◌++◌, Result, Ok, Err, None, IfOk, refl, sym, ◌∙◌, ap, subst}
use Rattle.serial_terms.specs.declared.call.Call.{Call}
use Rattle.serial_terms.specs.declared.call.Done.{Done}
use Rattle.serial_terms.specs.declared.call.Reply.{Reply}
use Rattle.serial_terms.specs.Histories.{Runs}
use Rattle.serial_terms.specs.Names.{own_calls}
use Rattle.serial_terms.specs.Ranges.{BelowCapacity}
use Rattle.serial_terms.specs.Renaming.{NamedDone, by_key, by_name}
use Rattle.serial_terms.specs.Serial.{outside}
use Rattle.store_layout.specs.Shapes.{Object}
use Rattle.store_meaning.specs.declared.meaning.StoreMeaning.{StoreMeaning}
use Rattle.store_parts.specs.Parts.{noted}
use Rattle.tx_core.specs.declared.stop.TxState.{TxState}
use Rattle.tx_core.specs.declared.stop.TxState.TheVariants.{Running}
use Rattle.tx_core.specs.Tx.{Attempt}
use Rattle.tx_store.specs.Attempts.{Tells}
use Rattle.tx_map.specs.Calls.{IsFull}
use Rattle.tx_map.specs.declared.part.MapStop.{MapStop}
use Rattle.tx_store.specs.Bodies.{NoMap, Does, StopsWith, Acts, of_map}
use Rattle.tx_store.specs.BodyFacts.{acts_called, acts_keyed, done_of}
use Rattle.tx_store.specs.declared.run.BodyStop.{BodyStop}
use Rattle.tx_store.specs.Calls.{IsCalled, in_child}
use Rattle.tx_store.specs.MapCalls.{Told, IsCalledWithKey}
use Rattle.tx_store.specs.Runs.{IsFresh}
use Rattle.tx_store.specs.Sees.{SeesHistory}
use Rattle.tx_store.specs.Stores.{TxView}
use Rattle.store_bodies.specs.Attempts.{IsReady, RunsFromBank}
use Rattle.store_bodies.specs.Bank.{IsBank, KeepsBank}
use Rattle.store_bodies.specs.declared.bank.Bank.{Bank}

module _ {K : Type 0} (a b : TxView (StoreMeaning Bank K)) where
  -- an attempt that had done nothing did these calls alone
  pub did : (ds : List Done) → IsFresh a.attempt → Does a b ds → by_key b.attempt.notes ≡ ds
  did ds f d = d.noted ∙ ap (λ (ns : List NamedDone). by_key ns ++ ds) f.notes

  -- a body that keeps the bank by its calls
  pub ran : {O : Type 0} (calls : O → List Done) (result : Result O BodyStop) → ((o : O) → result ≡ Ok o → KeepsBank (calls o)) → IsFresh a.attempt → Acts NoMap a b calls result
      → IfOk result (λ out. (b.attempt.state ≡ Running) × KeepsBank (by_key b.attempt.notes) × (by_key b.attempt.notes ≡ calls out))
  ran calls (Ok out) keeps f d = let is = did (calls out) f d in (d.state ∙ f.running, subst KeepsBank (sym is) (keeps out refl), is)
  ran calls (Err stop) keeps f d = tt

  -- ---- one call, outside of children

  module _ (r : IsReady a) (call : Call) where
    pub called : (reply : Reply) (o : Object) (n : ℕ) → IsCalled a.store.table.meaning.plan o n a b (noted call reply (in_child a.attempt.state) 0 ∷ []) None → Does a b (outside call reply ∷ [])
    called reply o n is = subst (λ (st : TxState). Does a b ((noted call reply (in_child st) 0).done ∷ [])) r.may.running
        (acts_called {A = Unit {0}} NoMap a.store.table.meaning.plan o n a b (λ x. noted call reply (in_child a.attempt.state) 0) (Ok tt) r.may.before_commit is)

    pub keyed : {A : Type 0} (reply : A → Reply) (m key n : ℕ) (x : A) → IsCalledWithKey BelowCapacity a.store.table.meaning.plan m key n a b (λ x. record { call = call; reply = reply x }) (Ok x) → Does a b (outside call (reply x) ∷ [])
    keyed reply m key n x is = subst (λ (st : TxState). Does a b (done_of (record { call = call; reply = reply x }) (in_child st) ∷ [])) r.may.running
        (acts_keyed NoMap BelowCapacity a.store.table.meaning.plan m key n a b (λ x. record { call = call; reply = reply x }) (Ok x) r.may.before_commit (λ capacity full. absurd (cc)) is)

    -- a map has a place for each key that may be asked for
    pub key_stopped : {A : Type 0} (told : A → Told) (m key n : ℕ) (stop : MapStop) (end : BodyStop) → end ≡ of_map m stop
        → IsCalledWithKey BelowCapacity a.store.table.meaning.plan m key n a b told (Err stop) → StopsWith NoMap a b end
    key_stopped {A} told m key n stop end is called = subst (λ (e : BodyStop). StopsWith NoMap a b e) (sym is)
        (acts_keyed NoMap BelowCapacity a.store.table.meaning.plan m key n a b told (Err stop) r.may.before_commit
        (λ capacity full. (called.keys.own_number (λ k low. low)).0 (subst (λ (result : Result A MapStop). IsFull result) (sym full) tt)) called)

-- the calls by name are those by key, and run from the lawful state at the attempt's version
pub runs_from_bank : {K : Type 0} (p : StoreMeaning Bank K) (a : Attempt (StoreMeaning Bank K) NamedDone)
    → SeesHistory (λ (bank : Bank) s. IsBank s) (λ (bank : Bank) ds. KeepsBank ds) p a → Tells BelowCapacity p.plan a → RunsFromBank (by_key a.notes)
runs_from_bank p a sees tells = record {
  state = sees.state;
  bank = sees.there.0;
  now = sees.now;
  run = subst (λ (ds : List Done). Runs sees.state ds sees.now) (own_calls BelowCapacity (λ c j low. low) (by_key a.notes) (by_name a.notes) tells.named) sees.run;
}

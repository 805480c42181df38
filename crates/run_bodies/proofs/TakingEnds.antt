use Rattle.std.proofs.Common.{◌≡◌, ℕ, true, List, [], ◌∷◌, sym, ap, subst, ◌∙◌}
use Rattle.run_purpose.specs.declared.purpose.RunPurpose.{RunPurpose}
use Rattle.run_stages.specs.Allowed.{IsAllowed}
use Rattle.run_stages.specs.Work.{Work}
use Rattle.run_bodies.proofs.Outside.{noted_then}
use Rattle.run_bodies.proofs.Taken.{handed_allowed, took_one}
use Rattle.run_bodies.proofs.Telling.{same_work}
use Rattle.run_bodies.specs.Records.{TookTask, HandsOn}
use Rattle.run_bodies.specs.RunStores.{IsRunStore, work_of_run}
use Rattle.serial_terms.specs.declared.call.Call.TheVariants.{Take}
use Rattle.serial_terms.specs.declared.call.Done.{Done}
use Rattle.serial_terms.specs.declared.call.Reply.TheVariants.{Value}
use Rattle.serial_terms.specs.Renaming.{by_key}
use Rattle.serial_terms.specs.Serial.{outside}
use Rattle.store_meaning.specs.declared.meaning.StoreMeaning.{StoreMeaning}
use Rattle.tx_core.specs.declared.stop.TxState.TheVariants.{Running}
use Rattle.tx_store.specs.Bodies.{Does}
use Rattle.tx_store.specs.BodyFacts.{does_then}
use Rattle.tx_store.specs.Runs.{IsFresh}
use Rattle.tx_store.specs.Stores.{TxView}

module _ {K : Type 0} (run : RunPurpose) (a : TxView (StoreMeaning RunPurpose K)) (fresh : IsFresh a.attempt) (store : IsRunStore run a.store) where
  -- what is allowed in the run is allowed by the store's purpose
  pub allowed_there : (calls : List Done) → IsAllowed (work_of_run run) calls → IsAllowed (work_of_run a.store.table.meaning.purpose) calls
  allowed_there calls allowed = subst (λ (w : Work). IsAllowed w calls) (sym (same_work run a.store store)) allowed

  -- a task was taken, and handed on in a child
  pub ends_taken : (b d : TxView (StoreMeaning RunPurpose K)) (i : ℕ) (calls : List Done) → Does a b (outside (Take 0) (Value i) ∷ []) → Does b d calls → HandsOn (work_of_run run) i calls
      → (d.attempt.state ≡ Running) × IsAllowed (work_of_run a.store.table.meaning.purpose) (by_key d.attempt.notes) × TookTask (by_key d.attempt.notes) true
  ends_taken b d i calls first next hands =
      let both = does_then a b d (outside (Take 0) (Value i) ∷ []) calls first next in
      let all = noted_then a d [] (outside (Take 0) (Value i) ∷ calls) (ap by_key fresh.notes) both in (
        both.state ∙ fresh.running,
        allowed_there (by_key d.attempt.notes) (handed_allowed (work_of_run run) i calls (by_key d.attempt.notes) hands all),
        took_one (work_of_run run) i calls (by_key d.attempt.notes) hands all,
      )

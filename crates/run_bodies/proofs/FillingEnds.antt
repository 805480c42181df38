use Rattle.std.proofs.Common.{◌≡◌, ℕ, ◌+◌, ◌*◌, ◌<◌, List, [], length, ap, ◌∙◌}
use Rattle.std.specs.Prelude.{Result, Ok, Err, IfOk, IfErr}
use Rattle.run_purpose.specs.declared.purpose.RunPurpose.{RunPurpose}
use Rattle.run_stages.specs.Allowed.{IsAllowed, next_batch}
use Rattle.run_stages.specs.Ends.{is_fill}
use Rattle.run_stages.specs.Told.{filling}
use Rattle.run_bodies.proofs.Filled.{fill_allowed}
use Rattle.run_bodies.proofs.Outside.{noted_then}
use Rattle.run_bodies.proofs.TakingEnds.{allowed_there}
use Rattle.run_bodies.specs.RunStores.{IsRunStore, work_of_run}
use Rattle.serial_terms.specs.declared.call.Done.{Done}
use Rattle.serial_terms.specs.Renaming.{by_key}
use Rattle.store_meaning.specs.declared.meaning.StoreMeaning.{StoreMeaning}
use Rattle.tx_core.specs.declared.stop.TxState.TheVariants.{Running}
use Rattle.tx_store.specs.Bodies.{NoMap, Acts}
use Rattle.tx_store.specs.declared.run.BodyStop.{BodyStop}
use Rattle.tx_store.specs.Runs.{IsFresh, IsSameAttempt, IsBodyStop, IfStopKeysFull}
use Rattle.tx_store.specs.Stores.{TxView}

module _ {M A : Type 0} (a b : TxView M) (calls : A → List Done) where
  pub acts_same : (result : Result A BodyStop) → Acts NoMap a b calls result → IsSameAttempt a b
  acts_same (Ok answer) acts = acts.same
  acts_same (Err stop) acts = acts.same

  pub acts_stopped : (result : Result A BodyStop) → Acts NoMap a b calls result → IfErr result (IsBodyStop a b)
  acts_stopped (Ok answer) acts = tt
  acts_stopped (Err stop) acts = acts.cause

  pub acts_full : (result : Result A BodyStop) → Acts NoMap a b calls result → IfErr result (IfStopKeysFull NoMap)
  acts_full (Ok answer) acts = tt
  acts_full (Err stop) acts = acts.full

module _ {K : Type 0} (run : RunPurpose) (a : TxView (StoreMeaning RunPurpose K)) (fresh : IsFresh a.attempt) (store : IsRunStore run a.store) where
  pub ends_filled : (b : TxView (StoreMeaning RunPurpose K)) (f n : ℕ) (result : Result (Unit {0}) BodyStop) → length (work_of_run run).tasks ≡ n → 4096 * (f + 1) < n
      → Acts NoMap a b (λ _. filling (work_of_run run) f (next_batch (work_of_run run) f)) result
      → IfOk result (λ out. (b.attempt.state ≡ Running) × IsAllowed (work_of_run a.store.table.meaning.purpose) (by_key b.attempt.notes) × (is_fill (by_key b.attempt.notes) ≡ 1))
  ends_filled b f n (Ok answer) count left does =
      let all = noted_then a b [] (filling (work_of_run run) f (next_batch (work_of_run run) f)) (ap by_key fresh.notes) does in (
        does.state ∙ fresh.running,
        allowed_there run a fresh store (by_key b.attempt.notes) (fill_allowed (work_of_run run) f n (by_key b.attempt.notes) count left all),
        ap is_fill all,
      )
  ends_filled b f n (Err stop) count left acts = tt

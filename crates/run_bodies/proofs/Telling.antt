use Rattle.std.proofs.Common.{◌≡◌, ℕ, List, refl, sym, subst}
use Rattle.run_purpose.specs.declared.purpose.RunPurpose.{RunPurpose}
use Rattle.run_purpose.specs.Lawful.{IsLawfulRun, layout_for}
use Rattle.run_stages.specs.Allowed.{IsAllowed}
use Rattle.run_stages.specs.Work.{Work}
use Rattle.run_bodies.specs.RunStores.{IsRunStore, HasParts, RunsFromLawful, work_of_run}
use Rattle.serial_terms.specs.declared.call.Done.{Done}
use Rattle.serial_terms.specs.Histories.{Runs}
use Rattle.serial_terms.specs.Names.{own_calls}
use Rattle.serial_terms.specs.Ranges.{BelowCapacity}
use Rattle.serial_terms.specs.Renaming.{NamedDone, by_key, by_name}
use Rattle.serial_terms.specs.RunLayout.{layout_by}
use Rattle.store_layout.specs.Shapes.{Shape, shape_of}
use Rattle.store_meaning.specs.declared.meaning.StoreMeaning.{StoreMeaning}
use Rattle.tx_core.specs.Tx.{Attempt}
use Rattle.tx_store.specs.Attempts.{Tells}
use Rattle.tx_store.specs.Sees.{SeesHistory}
use Rattle.tx_store.specs.Stores.{StoreView}

laid_out : (run : RunPurpose) (findings : ℕ) → HasParts run (shape_of (layout_for run.plan.now findings))
unfolding layout_by
laid_out run findings = record { maps = refl; queues = refl; pools = refl; logs = refl; cells = refl }

module _ {K : Type 0} (run : RunPurpose) (store : StoreView (StoreMeaning RunPurpose K)) (is : IsRunStore run store) where
  pub has_parts : HasParts run store.table.meaning.plan
  has_parts = subst (λ (s : Shape). HasParts run s) (sym is.laid) (laid_out run is.findings)

  pub same_work : work_of_run store.table.meaning.purpose ≡ work_of_run run
  same_work = rw (is.rules, is.bytes, is.plan) refl

  -- the calls by name are those by key, and run from the lawful state at the attempt's version
  pub runs_lawful : (a : Attempt (StoreMeaning RunPurpose K) NamedDone)
      → SeesHistory (λ (p : RunPurpose) s. IsLawfulRun (work_of_run p) s) (λ (p : RunPurpose) ds. IsAllowed (work_of_run p) ds) store.table.meaning a
      → Tells BelowCapacity store.table.meaning.plan a → RunsFromLawful (work_of_run run) (by_key a.notes)
  runs_lawful a sees tells = record {
    state = sees.state;
    lawful = subst (λ (w : Work). IsLawfulRun w sees.state) same_work sees.there.0;
    now = sees.now;
    run = subst (λ (ds : List Done). Runs sees.state ds sees.now) (own_calls BelowCapacity (λ c j low. low) (by_key a.notes) (by_name a.notes) tells.named) sees.run;
  }

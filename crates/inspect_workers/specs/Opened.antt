-- The store of a run, as it was opened.
use Rattle.std.specs.Prelude.{◌≡◌, ℕ, ◌*◌, ◌^◌, ◌≤◌}
use Rattle.capture_terms.specs.Plan.{IsPlanned}
use Rattle.cell_table.specs.Pass.{IsSole, opened}
use Rattle.cell_table.specs.Steps.{IsIdle}
use Rattle.run_bodies.specs.RunStores.{IsRunStore}
use Rattle.run_purpose.specs.declared.purpose.RunPurpose.{RunPurpose}
use Rattle.run_purpose.specs.Lawful.{layout_for}
use Rattle.serial_terms.specs.Stores.{opening_of}
use Rattle.store_contents.specs.Closed.{AreLaidOutBy}
use Rattle.store_layout.specs.Shapes.{shape_of}
use Rattle.store_layout.specs.States.{state_in}
use Rattle.store_meaning.specs.declared.meaning.StoreMeaning.{StoreMeaning}
use Rattle.tx_store.specs.Stores.{StoreView, PassView, IsPassOfStore}

module _ {K : Type 0} where
  -- The store was opened for this run, whose plan is that of a capture, and laid out for so many findings
  pub record IsOpenedFor (run : RunPurpose) (findings : ℕ) (store : StoreView (StoreMeaning RunPurpose K)) : Type 0 where
    pub plan : store.table.meaning.purpose.plan.now ≡ run.plan.now
    pub rules : store.table.meaning.purpose.rules.now ≡ run.rules.now
    pub bytes : store.table.meaning.purpose.bytes.now ≡ run.bytes.now
    pub planned : IsPlanned run.bytes.now run.plan.now
    pub few : findings ≤ 1048576
    pub laid : store.table.meaning.plan ≡ shape_of (layout_for run.plan.now findings)
    pub laid_out : AreLaidOutBy store.table.meaning.plan store.table.opening (layout_for run.plan.now findings)
    pub opens : state_in store.table.meaning.plan store.table.opening ≡ opening_of (layout_for run.plan.now findings)

  -- for some number of findings
  abbrev pub IsOpened : RunPurpose → StoreView (StoreMeaning RunPurpose K) → Type 0
  IsOpened run store = (findings : ℕ) × IsOpenedFor run findings store

  -- so its transactions may run
  pub runs_in : (run : RunPurpose) (store : StoreView (StoreMeaning RunPurpose K)) → IsOpened run store → IsRunStore run store
  runs_in run store (findings, is) = record { plan = is.plan; rules = is.rules; bytes = is.bytes; planned = is.planned; findings = findings; few = is.few; laid = is.laid }

  -- the pass of all its callers, as it opens
  pub record IsOpeningPass (workers : ℕ) (store : StoreView (StoreMeaning RunPurpose K)) (p : PassView (StoreMeaning RunPurpose K)) : Type 0 where
    pub of : IsPassOfStore store p
    pub callers : store.table.callers ≡ workers
    pub pass : p.pass ≡ opened store.table
    pub sole : IsSole p.pass
    pub idle : IsIdle p.pass.view
    pub draws : p.pass.view.draws ≡ workers * 2 ^ 48

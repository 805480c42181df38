-- The bodies of a worker may run over the store of its run, and that store as it opens.
use Rattle.std.proofs.Common.{◌≡◌, ℕ, zero, suc, ◌*◌, ◌^◌, ◌≤◌, List, length, refl, sym, ap, ◌∙◌, subst}
use Rattle.std.specs.Prelude.{Option, None}
use Rattle.capture_terms.specs.Plan.{IsPlanned}
use Rattle.cell_table.specs.Pass.{PassState, IsSole, new_noted, opened}
use Rattle.cell_table.specs.Steps.{IsIdle}
use Rattle.run_bodies.specs.Records.{AreAhead, AreFoundFor}
use Rattle.run_bodies.specs.RunStores.{IsRunStore, work_of_run}
use Rattle.run_findings.specs.declared.slots.Slot.{Slot}
use Rattle.run_purpose.specs.declared.item.Item.{Item}
use Rattle.run_purpose.specs.declared.purpose.RunPurpose.{RunPurpose}
use Rattle.run_purpose.specs.Lawful.{Fits, layout_for}
use Rattle.serial_terms.specs.declared.store.Layout.{Layout}
use Rattle.serial_terms.specs.Renaming.{NamedDone}
use Rattle.serial_terms.specs.Stores.{opening_of}
use Rattle.store_layout.specs.Opening.{opening_words}
use Rattle.store_layout.specs.Shapes.{IsLayout, shape_of}
use Rattle.store_layout.specs.States.{state_in}
use Rattle.store_meaning.specs.declared.meaning.StoreMeaning.{StoreMeaning}
use Rattle.tx_store.specs.Stores.{StoreView, PassView, IsPassOfStore}
use Rattle.inspect_workers.specs.Opened.{IsOpenedFor, IsOpened, IsOpeningPass, runs_in}

module _ {K : Type 0} (run own : RunPurpose) (store : StoreView (StoreMeaning RunPurpose K)) (opened : IsOpened run store) (same : own ≡ run) where
  pub can_run : IsRunStore own store
  can_run = subst (λ (r : RunPurpose). IsRunStore r store) (sym same) (runs_in run store opened)

  pub can_match : (ahead known : List Slot) (found : Option Item) (values : List ℕ) → AreAhead run ahead → known ≡ ahead → found ≡ None
      → IsRunStore own store × AreAhead own known × AreFoundFor (work_of_run own) found values
  can_match ahead known found values are e none = (
    can_run,
    subst (λ (r : RunPurpose). AreAhead r known) (sym same) (subst (AreAhead run) (sym e) are),
    subst (λ (f : Option Item). AreFoundFor (work_of_run own) f values) (sym none) tt,
  )

module _ {K : Type 0} (run : RunPurpose) (findings : ℕ) (layout : Layout) (store : StoreView (StoreMeaning RunPurpose K)) where
  pub opened_for : IsPlanned run.bytes.now run.plan.now → findings ≤ 1048576 → layout ≡ layout_for run.plan.now findings → Fits layout
      → store.table.meaning ≡ record { purpose = run; plan = shape_of layout } → store.table.opening ≡ opening_words layout
      → state_in (shape_of layout) (opening_words layout) ≡ opening_of layout → IsOpenedFor run findings store
  opened_for planned few is fits meaning words opens =
      let laid = ap (λ (m : StoreMeaning RunPurpose K). m.plan) meaning ∙ ap shape_of is in
      record {
        plan = ap (λ (m : StoreMeaning RunPurpose K). m.purpose.plan.now) meaning;
        rules = ap (λ (m : StoreMeaning RunPurpose K). m.purpose.rules.now) meaning;
        bytes = ap (λ (m : StoreMeaning RunPurpose K). m.purpose.bytes.now) meaning;
        planned = planned;
        few = few;
        laid = laid;
        laid_out = record { is = subst IsLayout is fits.fine; shape = laid; words = words ∙ ap opening_words is };
        opens = ap (λ (m : StoreMeaning RunPurpose K). state_in m.plan store.table.opening) meaning ∙ (ap (state_in (shape_of layout)) words ∙ (opens ∙ ap opening_of is));
      }

new_count : (D : Type 0) (k n : ℕ) → length (new_noted {D = D} k n) ≡ n
new_count D k zero = refl
new_count D k (suc n) = ap (λ (m : ℕ). suc m) (new_count D (suc k) n)

module _ {K : Type 0} (workers : ℕ) (store : StoreView (StoreMeaning RunPurpose K)) (p : PassView (StoreMeaning RunPurpose K)) where
  pub opening_pass : IsPassOfStore store p → store.table.callers ≡ workers → p.pass ≡ opened store.table → IsOpeningPass workers store p
  opening_pass of callers is = record {
    of = of;
    callers = callers;
    pass = is;
    sole = subst IsSole (sym is) (new_count NamedDone 0 store.table.callers);
    idle = subst (λ (q : PassState (StoreMeaning RunPurpose K) NamedDone). IsIdle q.view) (sym is) (refl, refl);
    draws = ap (λ (q : PassState (StoreMeaning RunPurpose K) NamedDone). q.view.draws) is ∙ ap (λ (n : ℕ). n * 2 ^ 48) callers;
  }

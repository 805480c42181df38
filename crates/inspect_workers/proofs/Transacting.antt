-- What a transaction of a run does, from what any transaction does.
use Rattle.std.proofs.Common.{◌≡◌, ℕ, zero, suc, ◌+◌, ◌-◌, ◌<◌, ◌⊎◌, inl, inr, List, [], ◌∷◌, length, get_or, refl, sym, ap, ◌∙◌, subst, arith}
use Rattle.capture_terms.specs.declared.plan.Plan.{Plan}
use Rattle.cell_table.specs.Pass.{IsPassOf, note}
use Rattle.rule_terms.specs.Rule.{Rule}
use Rattle.run_bodies.specs.RunStores.{work_of_run}
use Rattle.run_purpose.specs.declared.purpose.RunPurpose.{RunPurpose}
use Rattle.run_purpose.specs.Lawful.{IsLawfulRun, layout_for}
use Rattle.run_stages.specs.Allowed.{IsAllowed}
use Rattle.run_stages.specs.Ends.{AreAllDatagrams}
use Rattle.run_stages.specs.FromCapture.{work_of_plan}
use Rattle.run_stages.specs.Told.{FullIsTheLog}
use Rattle.run_stages.specs.Work.{Work, values_of}
use Rattle.serial_terms.specs.declared.call.Done.{Done}
use Rattle.serial_terms.specs.declared.sight.SightEnd.TheVariants.{Full}
use Rattle.serial_terms.specs.Entries.{Entry, up_to}
use Rattle.serial_terms.specs.Histories.{IsLegalRun, RunsLawfully}
use Rattle.serial_terms.specs.Laws.{AreKept, RecordsKeepSizes, SizesStay, CapacitiesStay}
use Rattle.serial_terms.specs.Renaming.{NamedDone, by_key, by_name, entries_with, seen_with}
use Rattle.serial_terms.specs.RunLayout.{layout_by}
use Rattle.serial_terms.specs.Serial.{State, IsWithinCapacity}
use Rattle.serial_terms.specs.Sights.{Seen, EndsAs}
use Rattle.store_history.specs.Histories.{IsSeen}
use Rattle.store_layout.specs.Shapes.{Shape, shape_of}
use Rattle.store_layout.specs.States.{state_in}
use Rattle.store_meaning.specs.declared.meaning.StoreMeaning.{StoreMeaning}
use Rattle.tx_store.specs.Bodies.{NoMap}
use Rattle.tx_store.specs.declared.run.RunEnd.{RunEnd}
use Rattle.tx_store.specs.declared.run.RunEnd.TheVariants as runs
use Rattle.tx_store.specs.Known.{KnowsHistory}
use Rattle.tx_store.specs.Resolves.{parts_of}
use Rattle.tx_store.specs.Runs.{AfterFewer, IsCommittedRun, IsAnswered, IsRefusedRun, IsNotSpent, IfEndKeysFull}
use Rattle.tx_store.specs.Stores.{StoreView, PassView}
use Rattle.inspect_workers.specs.Noted.{AddsOne}
use Rattle.inspect_workers.specs.Opened.{IsOpened}
use Rattle.inspect_workers.specs.Turns.{Saw, IsFullLog, IsFullAsLog, IsRefusedWith, RunsToFullLog, TellsOfFull, IsForMemory}

-- ---- the layout of a run

one_queue : (n g f : ℕ) → length (shape_of (layout_by n g f)).queues ≡ 1
unfolding layout_by
one_queue n g f = refl

one_log : (n g f : ℕ) → length (shape_of (layout_by n g f)).logs ≡ 1
unfolding layout_by
one_log n g f = refl

log_room : (s : Shape) (cells : List ℕ) → ((state_in s cells).logs 0).capacity ≡ get_or s.logs 0 0
unfolding state_in
log_room s cells = refl

zero_or_one : (part : ℕ) → part < 2 → (part ≡ 0) ⊎ (part ≡ 1)
zero_or_one zero low = inl refl
zero_or_one (suc zero) low = inr refl
zero_or_one (suc (suc k)) low = absurd (omega (arith, low))

-- a lawful run is a legal one
legal_of : (P : State → Type 0) (es : List (Entry Done)) (s t : State) → RunsLawfully P s es t → IsLegalRun s es t
legal_of P [] s t r = r
legal_of P (e ∷ es) s t r = (r.0, r.1, r.2.0, r.3, legal_of P es r.0 t r.4)

-- ---- refusals

module _ {M : Type 0} (Saw : PassView M → Seen NamedDone → Type 0) (parts : ℕ) (A B : List NamedDone → Type 0) (wider : (notes : List NamedDone) → A notes → B notes) where
  pub refused_wider : (tries : ℕ) (p q : PassView M) (end : RunEnd) → IsRefusedRun Saw parts A tries p q end → IsRefusedRun Saw parts B tries p q end
  refused_wider tries p q (runs.Spent n last) is = is
  refused_wider tries p q (runs.Full part values adding) is = record {
    before = is.before;
    few = is.few;
    last = is.last;
    pass = is.pass;
    ended = is.ended;
    books = is.books;
    ends = record { there = is.ends.there; seen = is.ends.seen; end = is.ends.end; calls = wider is.ends.seen.dones is.ends.calls; saw = is.ends.saw };
  }
  refused_wider tries p q (runs.KeysFull map most) is = is
  refused_wider tries p q runs.Memory is = is

module _ {K : Type 0} (run : RunPurpose) (store : StoreView (StoreMeaning RunPurpose K)) (opened : IsOpened run store) where
  abbrev at : StoreMeaning RunPurpose K
  at = store.table.meaning

  -- the work of the store's purpose is the run's
  pub same_work : work_of_run at.purpose ≡ work_of_run run
  same_work =
      ap (λ (p : Plan). work_of_plan at.purpose.rules.now at.purpose.bytes.now p) opened.1.plan
      ∙ (ap (λ (rules : List Rule). work_of_plan rules at.purpose.bytes.now run.plan.now) opened.1.rules
      ∙ ap (λ (bytes : List ℕ). work_of_plan run.rules.now bytes run.plan.now) opened.1.bytes)

  pub adds_one : {O : Type 0} (Seeing : PassView (StoreMeaning RunPurpose K) → Seen NamedDone → Type 0) (runs : List Done → O → Type 0) (tries : ℕ) (p q : PassView (StoreMeaning RunPurpose K)) (out : O)
      → AfterFewer Seeing tries p (λ before. IsCommittedRun (IsAllowed (work_of_run at.purpose)) runs before q out)
      → AddsOne (λ calls. IsAllowed (work_of_run run) calls × runs calls out) p.pass q.pass
  adds_one Seeing runs tries p q out is =
      let one = is.ends in
      record {
        entry = record { place = q.pass.seen; writer = one.writer; content = one.content };
        books = one.books ∙ ap (note q.pass.seen one.writer one.content) is.books;
        place = refl;
        calls = (subst (λ (w : Work). IsAllowed w (by_key one.content.dones)) same_work one.allowed, one.ran);
      }

  one_queue_here : length at.plan.queues ≡ 1
  one_queue_here = ap (λ (s : Shape). length s.queues) opened.1.laid ∙ one_queue (length run.plan.now.tasks.items) (length run.plan.now.groups.items) opened.0

  one_log_here : length at.plan.logs ≡ 1
  one_log_here = ap (λ (s : Shape). length s.logs) opened.1.laid ∙ one_log (length run.plan.now.tasks.items) (length run.plan.now.groups.items) opened.0

  module _ (sizes : RecordsKeepSizes) (stay : SizesStay) (capacities : CapacitiesStay) (log : FullIsTheLog)
      (p : PassView (StoreMeaning RunPurpose K)) (of : IsPassOf store.table p.pass)
      (knows : KnowsHistory (λ (purpose : RunPurpose). IsLawfulRun (work_of_run purpose)) (λ (purpose : RunPurpose). IsAllowed (work_of_run purpose)) at p.pass)
      (seen : Seen NamedDone) (part values adding : ℕ) (saw : Saw run store p seen) (ended : seen.end ≡ Full part values adding)
      (allowed : IsAllowed (work_of_run at.purpose) (by_name seen.dones)) (there : part < parts_of at.plan) where
    sees : IsSeen (IsLawfulRun (work_of_run at.purpose)) (length at.plan.queues) (state_in at.plan p.pass.view.opening) (entries_with by_name knows.0) (seen_with by_name seen)
    sees = knows.2.sights (length at.plan.queues) seen saw.view

    abbrev start : State
    start = state_in at.plan p.pass.view.opening

    kept : AreKept (up_to seen.place (entries_with by_name knows.0)) start sees.state
    kept = sizes (up_to seen.place (entries_with by_name knows.0)) start sees.state (legal_of _ _ _ _ sees.there.1)

    full : EndsAs 1 sees.run.0 (Full part values adding)
    full = subst (λ (n : ℕ). EndsAs n sees.run.0 (Full part values adding)) one_queue_here (subst (EndsAs (length at.plan.queues) sees.run.0) ended sees.run.2)

    capacity : (sees.run.0.logs 0).capacity ≡ get_or at.plan.logs 0 0
    capacity = (stay (by_name seen.dones) sees.state sees.run.0 sees.run.1 0).2 ∙ ((kept.sizes 0).2 ∙ log_room at.plan p.pass.view.opening)

    told : (EndsAs 1 sees.run.0 (Full 0 values adding) → ⊥)
        × ((items : List ℕ) → AreAllDatagrams (work_of_run at.purpose) items → EndsAs 1 sees.run.0 (Full 1 values adding) → (sees.run.0.logs 0).capacity < length (values_of (work_of_run at.purpose) items))
    told = log (work_of_run at.purpose) sees.there.0.sound sees.state sees.run.0 sees.there.0.lawful (by_name seen.dones) allowed sees.run.1 values adding

    part_is : part ≡ 1
    part_is = split (zero_or_one part (let a = one_queue_here in let b = one_log_here in let c = there in omega arith)) where
      split : (part ≡ 0) ⊎ (part ≡ 1) → part ≡ 1
      split (inl e) = absurd (told.0 (subst (λ (n : ℕ). EndsAs 1 sees.run.0 (Full n values adding)) e full))
      split (inr e) = e

    of_log : EndsAs 1 sees.run.0 (Full 1 values adding)
    of_log = subst (λ (n : ℕ). EndsAs 1 sees.run.0 (Full n values adding)) part_is full

    is_full_log : IsFullLog (work_of_run run) at.plan part values adding
    is_full_log = record {
      log = part_is;
      exceeds = subst (λ (n : ℕ). n < values + adding) capacity of_log.1;
      more = subst (λ (w : Work). (items : List ℕ) → AreAllDatagrams w items → get_or at.plan.logs 0 0 < length (values_of w items)) same_work
          (λ items all. subst (λ (n : ℕ). n < length (values_of (work_of_run at.purpose) items)) capacity (told.1 items all of_log));
    }

    within : IsWithinCapacity start
    within = subst (λ (cells : List ℕ). IsWithinCapacity (state_in at.plan cells)) (sym of.2) (subst IsWithinCapacity (sym opened.1.opens) (capacities.opening (layout_for run.plan.now opened.0)))

    runs_to_full : RunsToFullLog (work_of_run run) (by_name seen.dones) values adding
    runs_to_full = record {
      allowed = subst (λ (w : Work). IsAllowed w (by_name seen.dones)) same_work allowed;
      start = sees.state;
      within = kept.within within;
      end = sees.run.0;
      runs = sees.run.1;
      full = of_log;
    }

    pub tells_of_full : IsFullLog (work_of_run run) at.plan part values adding × RunsToFullLog (work_of_run run) (by_name seen.dones) values adding
    tells_of_full = (is_full_log, runs_to_full)

module _ {K : Type 0} (run : RunPurpose) (store : StoreView (StoreMeaning RunPurpose K)) (opened : IsOpened run store)
    (tries : ℕ) (p q : PassView (StoreMeaning RunPurpose K)) {O : Type 0} (tells : TellsOfFull run store q) (did : List Done → O → Type 0) where
  abbrev WouldAdd : List NamedDone → Type 0
  WouldAdd = IsAnswered (IsAllowed (work_of_run store.table.meaning.purpose)) did

  abbrev IsRefused : RunEnd → Type 0
  IsRefused end = IsRefusedRun (Saw run store) (parts_of store.table.meaning.plan) WouldAdd tries p q end

  as_log : (end : RunEnd) → IfEndKeysFull NoMap end → IsRefused end → IsFullAsLog (work_of_run run) store.table.meaning.plan end
  as_log (runs.Spent n last) full is = tt
  as_log (runs.Full part values adding) full is = let e = is.ends in (tells e.seen part values adding e.saw e.end e.calls.placed e.there).0
  as_log (runs.KeysFull map most) full is = full
  as_log runs.Memory full is = tt

  -- the refusal of calls that never fill the log, of a pass with every caller number
  pub for_memory : ((notes : List NamedDone) (out : O) → did (by_key notes) out → (values adding : ℕ) → RunsToFullLog (work_of_run run) (by_name notes) values adding → ⊥) → (end : RunEnd) → IfEndKeysFull NoMap end → IsNotSpent end → IsRefused end → IsForMemory end
  for_memory never (runs.Spent n last) full alone is = alone
  for_memory never (runs.Full part values adding) full alone is = let e = is.ends in never e.seen.dones e.calls.answer e.calls.ran values adding (tells e.seen part values adding e.saw e.end e.calls.placed e.there).1
  for_memory never (runs.KeysFull map most) full alone is = full
  for_memory never runs.Memory full alone is = tt

  pub refused_with : (end : RunEnd) → IfEndKeysFull NoMap end → q.pass.books ≡ p.pass.books → IsRefused end → IsRefusedWith run store tries p q end
  refused_with end never same is = record {
    books = same;
    cause = refused_wider (Saw run store) (parts_of store.table.meaning.plan) WouldAdd
        (λ notes. IsAllowed (work_of_run run) (by_key notes)) (λ notes would. subst (λ (w : Work). IsAllowed w (by_key notes)) (same_work run store opened) would.allowed) tries p q end is;
    full = as_log end never is;
  }

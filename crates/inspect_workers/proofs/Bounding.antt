-- A worker's records take no more tasks and items than there are.
use Rattle.std.proofs.Common.{◌≡◌, ℕ, ◌+◌, ◌*◌, ◌<◌, ◌≤◌, Bool, true, false, cond, List, [], ◌∷◌, ◌++◌, length, refl, sym, ap, ◌∙◌, subst, arith, append_assoc}
use Rattle.std.specs.Prelude.{◌==◌}
use Rattle.cell_table.specs.declared.view.Noted.{Noted}
use Rattle.cell_table.specs.declared.view.NotedBook.{NotedBook}
use Rattle.cell_table.specs.Pass.{IsPassOf}
use Rattle.run_bodies.specs.RunStores.{work_of_run}
use Rattle.run_purpose.specs.declared.purpose.RunPurpose.{RunPurpose}
use Rattle.run_purpose.specs.Lawful.{IsLawfulRun, layout_for}
use Rattle.run_stages.specs.Allowed.{IsAllowed}
use Rattle.run_stages.specs.Ends.{took_task, took_item, tasks_taken, items_taken, all_tasks_taken, all_items_taken}
use Rattle.run_stages.specs.FromCapture.{TasksHaveFacts}
use Rattle.run_stages.specs.Laws.{RunsAreBounded}
use Rattle.run_stages.specs.Opening.{layout_of, IsRunOfWork}
use Rattle.run_stages.specs.Told.{OneCallerTakesLess}
use Rattle.run_stages.specs.Work.{Work, IsSoundWork}
use Rattle.serial_terms.specs.declared.call.Call.{Call}
use Rattle.serial_terms.specs.declared.call.Call.TheVariants.{Take, Dequeue}
use Rattle.serial_terms.specs.declared.call.Done.{Done}
use Rattle.serial_terms.specs.declared.call.Reply.{Reply}
use Rattle.serial_terms.specs.Entries.{Entry, Each, by_caller}
use Rattle.serial_terms.specs.Histories.{IsLegalRun}
use Rattle.serial_terms.specs.Renaming.{NamedDone, with_key, by_key, by_name, entries_with}
use Rattle.serial_terms.specs.RunLayout.{layout_by}
use Rattle.serial_terms.specs.Serial.{State}
use Rattle.serial_terms.specs.Stores.{opening_of}
use Rattle.store_history.specs.Books.{records_from, books_of}
use Rattle.store_layout.specs.States.{state_in}
use Rattle.store_meaning.specs.declared.meaning.StoreMeaning.{StoreMeaning}
use Rattle.tx_store.specs.Known.{KnowsHistory}
use Rattle.tx_store.specs.Stores.{StoreView, PassView}
use Rattle.inspect_workers.specs.Noted.{Books, with_records}
use Rattle.inspect_workers.specs.Opened.{IsOpened}
use Rattle.inspect_workers.specs.Works.{HasTurned, taken_in}
use Rattle.inspect_workers.proofs.Placing.{unnamed}
use Rattle.inspect_workers.proofs.Transacting.{same_work}

-- ---- calls take the same by their keys and by the names of these

task_by_name : (n : ℕ) (c : Call) (r : Reply) → took_task (with_key n c) r ≡ took_task c r
task_by_name n (Take p) r = refl
task_by_name n c r = refl

item_by_name : (n : ℕ) (c : Call) (r : Reply) → took_item (with_key n c) r ≡ took_item c r
item_by_name n (Dequeue q) r = refl
item_by_name n c r = refl

tasks_by_name : (ds : List NamedDone) → tasks_taken (by_name ds) ≡ tasks_taken (by_key ds)
tasks_by_name [] = refl
tasks_by_name (d ∷ ds) = let a = task_by_name d.name d.done.call d.done.reply in let b = tasks_by_name ds in omega arith

items_by_name : (ds : List NamedDone) → items_taken (by_name ds) ≡ items_taken (by_key ds)
items_by_name [] = refl
items_by_name (d ∷ ds) = let a = item_by_name d.name d.done.call d.done.reply in let b = items_by_name ds in omega arith

-- ---- one caller's records by name

chosen : {A B : Type 0} (f : A → B) (b : Bool) (x y : A) → f (cond b x y) ≡ cond b (f x) (f y)
chosen f true x y = refl
chosen f false x y = refl

of_caller : (k : ℕ) (es : List (Entry NamedDone)) → by_caller k (entries_with by_name es) ≡ entries_with by_name (by_caller k es)
of_caller k [] = refl
of_caller k (e ∷ es) = ap (λ (z : List (Entry Done)). cond (e.caller == k) (record { caller = e.caller; index = e.index; place = e.place; writer = e.writer; dones = by_name e.dones } ∷ z) z) (of_caller k es)
    ∙ sym (chosen (entries_with by_name) (e.caller == k) (e ∷ by_caller k es) (by_caller k es))

abbrev both_taken : List (Entry Done) → ℕ
both_taken es = all_tasks_taken es + all_items_taken es

taken_from : (k n : ℕ) (es : List (Noted NamedDone)) → both_taken (entries_with by_name (records_from unnamed k n es)) ≡ taken_in es
taken_from k n [] = refl
taken_from k n (e ∷ es) =
    let a = tasks_by_name e.content.dones in
    let b = items_by_name e.content.dones in
    let c = taken_from k (n + 1) es in omega arith

taken_more : (es fs : List (Noted NamedDone)) → taken_in fs ≤ taken_in (es ++ fs)
taken_more [] fs = omega arith
taken_more (e ∷ es) fs = let a = taken_more es fs in omega arith

-- ---- the book that records are added to

with_first : (es : List (Noted NamedDone)) (b : NotedBook NamedDone) (bs : Books) → with_records es (b ∷ bs) ≡ record { caller = b.caller; entries = b.entries ++ es } ∷ bs
with_first [] b bs = ap (λ (es : List (Noted NamedDone)). record { caller = b.caller; entries = es } ∷ bs) (sym (append_none b.entries)) where
  append_none : (xs : List (Noted NamedDone)) → xs ++ [] ≡ xs
  append_none [] = refl
  append_none (x ∷ xs) = ap (λ (z : List (Noted NamedDone)). x ∷ z) (append_none xs)
with_first (e ∷ es) b bs = with_first es (record { caller = b.caller; entries = b.entries ++ e ∷ [] }) bs
    ∙ ap (λ (z : List (Noted NamedDone)). record { caller = b.caller; entries = z } ∷ bs) (append_assoc b.entries (e ∷ []) es)

with_none : (es : List (Noted NamedDone)) → with_records es [] ≡ []
with_none [] = refl
with_none (e ∷ es) = with_none es

module _ (w : Work) (findings : ℕ) (history : List (Entry NamedDone)) (end : State) (bounded : RunsAreBounded) (sound : IsSoundWork w) (less : OneCallerTakesLess)
    (run : IsRunOfWork w findings (entries_with by_name history) end) where
  -- one book takes at most each task once, and each item
  book_bounded : (b : NotedBook NamedDone) → by_caller b.caller history ≡ records_from unnamed b.caller 0 b.entries → taken_in b.entries ≤ 2 * length w.tasks
  book_bounded b own =
      let all = bounded w sound findings (entries_with by_name history) end run in
      let part = less b.caller (entries_with by_name history) in
      let is = taken_from b.caller 0 b.entries in
      let same : both_taken (by_caller b.caller (entries_with by_name history)) ≡ both_taken (entries_with by_name (records_from unnamed b.caller 0 b.entries))
      = ap both_taken (of_caller b.caller history ∙ ap (entries_with by_name) own) in
      omega (arith, all.2, all.3, part.0, part.1, is, same)

  first_bounded : (books old : Books) (es : List (Noted NamedDone)) → 0 < length books → books ≡ with_records es old
      → Each (λ b. by_caller b.caller history ≡ b.records) (books_of unnamed books) → taken_in es ≤ 2 * length w.tasks
  first_bounded books [] es some is own = absurd (let e = ap length (is ∙ with_none es) in omega arith)
  first_bounded books (b ∷ bs) es some is own =
      let first = subst (λ (z : Books). Each (λ b. by_caller b.caller history ≡ b.records) (books_of unnamed z)) (is ∙ with_first es b bs) own in
      let low = book_bounded (record { caller = b.caller; entries = b.entries ++ es }) first.0 in
      let more = taken_more b.entries es in omega arith

module _ {K : Type 0} (run : RunPurpose) (store : StoreView (StoreMeaning RunPurpose K)) (opened : IsOpened run store) where
  same_layout : TasksHaveFacts → layout_of (work_of_run run) opened.0 ≡ layout_for run.plan.now opened.0
  same_layout facts =
      let f = facts run.rules.now run.bytes.now run.plan.now.tasks.items run.plan.now.groups.items in
      ap (λ (n : ℕ). layout_by n (work_of_run run).groups opened.0) f.0 ∙ ap (λ (g : ℕ). layout_by (length run.plan.now.tasks.items) g opened.0) f.1

  pub bounded_turns : TasksHaveFacts → RunsAreBounded → OneCallerTakesLess → (p : PassView (StoreMeaning RunPurpose K)) → IsPassOf store.table p.pass → 0 < length p.pass.books
      → KnowsHistory (λ (purpose : RunPurpose). IsLawfulRun (work_of_run purpose)) (λ (purpose : RunPurpose). IsAllowed (work_of_run purpose)) store.table.meaning p.pass
      → (turns : ℕ) (old : Books) → HasTurned (work_of_run run) turns old p.pass.books → turns ≤ 2 * length run.plan.now.tasks.items
  bounded_turns facts bounded less p of some knows turns old has =
      let one = knows.2 in
      let w = work_of_run run in
      let starts : state_in store.table.meaning.plan p.pass.view.opening ≡ opening_of (layout_of w opened.0)
      = ap (state_in store.table.meaning.plan) of.2 ∙ (opened.1.opens ∙ ap opening_of (sym (same_layout facts))) in
      let legal : IsLegalRun (opening_of (layout_of w opened.0)) (entries_with by_name knows.0) knows.1
      = subst (λ (s : State). IsLegalRun s (entries_with by_name knows.0) knows.1) starts one.legal.run in
      let is : IsRunOfWork w opened.0 (entries_with by_name knows.0) knows.1 = record {
        run = legal;
        allowed = subst (λ (v : Work). Each (λ e. IsAllowed v e.dones) (entries_with by_name knows.0)) (same_work run store opened) one.placed;
      } in
      let sound = subst IsSoundWork (same_work run store opened) one.lawful_end.sound in
      let low = first_bounded w opened.0 knows.0 knows.1 bounded sound less is p.pass.books old has.entries some has.books one.own in
      let many = has.many in
      let n = (facts run.rules.now run.bytes.now run.plan.now.tasks.items run.plan.now.groups.items).0 in omega arith

-- What the closed store of a run tells.
use Rattle.std.proofs.Common.{◌≡◌, ℕ, ◌+◌, ◌<◌, ◌≤◌, ◌⊎◌, inl, inr, List, [], ◌∷◌, ◌++◌, length, get_or, refl, sym, ap, ◌∙◌, subst, arith}
use Rattle.std.specs.Prelude.{◌/◌, ◌%◌, ◌^◌, IsTrue, All, IsPermutation, not}
use Rattle.std.specs.List.{range_with_len}
use Rattle.std.specs.List.Sorted.{IsNonDecreasing}
use Rattle.std.proofs.lemmas.List.Sorted.{IsPermutation-trans}
use Rattle.std.proofs.lemmas.List.Sums.{count_by-le-length}
use Rattle.std.proofs.lemmas.List.FromFn.{length-range_with_len}
use Rattle.capture_terms.specs.Capture.{contents_of}
use Rattle.capture_terms.specs.Datagram.{is_complete, members}
use Rattle.capture_terms.specs.Plan.{IsClassifiable, IsPlan}
use Rattle.capture_terms.specs.declared.capture.Capture.{Capture}
use Rattle.capture_terms.specs.declared.plan.Plan.{Plan}
use Rattle.capture_terms.specs.declared.plan.Task.{Task}
use Rattle.cell_table.specs.declared.view.Noted.{Noted}
use Rattle.inspect_workers.specs.Batches.{RunStore, RunPass, IsAtEnd, HasGivenAll}
use Rattle.inspect_workers.specs.Inspected.{IsRunTo, AreFindings, CountsIncomplete, Tells}
use Rattle.inspect_workers.specs.Noted.{Books, calls_of, fills_in, with_record}
use Rattle.inspect_workers.specs.Opened.{IsOpenedFor}
use Rattle.inspect_workers.proofs.Placing.{each_in, all_in, unnamed}
use Rattle.inspect_workers.proofs.Transacting.{same_work}
use Rattle.inspection_terms.specs.Findings.{all_findings, findings_of_capture}
use Rattle.inspection_terms.specs.Laws.{SortedAreFindings}
use Rattle.rule_terms.specs.Rule.{Rule}
use Rattle.run_bodies.specs.RunStores.{work_of_run}
use Rattle.run_purpose.specs.declared.purpose.RunPurpose.{RunPurpose}
use Rattle.run_purpose.specs.Finished.{FoundNothing, IsLastReply, IsFinishedRun, FindsAll}
use Rattle.run_purpose.specs.Lawful.{IsLawfulRun, layout_for}
use Rattle.run_stages.specs.Allowed.{IsAllowed}
use Rattle.run_stages.specs.Ends.{is_fill, fills_made}
use Rattle.run_stages.specs.Work.{Work}
use Rattle.serial_terms.specs.declared.call.Done.{Done}
use Rattle.serial_terms.specs.declared.store.StoreState.{StoreState}
use Rattle.serial_terms.specs.Entries.{Entry, Book, Each, IsIn, IsHistoryOf, AreBooks, total, total_of_books}
use Rattle.serial_terms.specs.Facts.{each_append}
use Rattle.serial_terms.specs.Laws.{BooksSumToHistory}
use Rattle.serial_terms.specs.Renaming.{NamedDone, by_key, entries_with}
use Rattle.serial_terms.specs.Worked.{no_item, no_task}
use Rattle.store_contents.specs.Closed.{IsClosed, AreLaidOutBy, books_by_key}
use Rattle.store_contents.specs.Contents.{AreByKey}
use Rattle.store_history.specs.Books.{records_from, books_of}
use Rattle.store_history.specs.Keyed.{books_with}

-- ---- the records of books in a history

abbrev by_keys : Books → List (Book Done)
by_keys books = books_with by_key (books_of unnamed books)

abbrev entry_at : ℕ → ℕ → Noted NamedDone → Entry Done
entry_at caller index e = record { caller = caller; index = index; place = e.place; writer = e.writer; dones = calls_of e }

abbrev entries_at : ℕ → ℕ → List (Noted NamedDone) → List (Entry Done)
entries_at caller n es = entries_with by_key (records_from unnamed caller n es)

abbrev EachNoted : (Noted NamedDone → Type 0) → Books → Type 0
EachNoted P books = Each (λ b. Each P b.entries) books

each_weaker : {A : Type 0} (P Q : A → Type 0) → ((x : A) → P x → Q x) → (xs : List A) → Each P xs → Each Q xs
each_weaker P Q f [] a = tt
each_weaker P Q f (x ∷ xs) a = (f x a.0, each_weaker P Q f xs a.1)

noted_weaker : (P Q : Noted NamedDone → Type 0) → ((e : Noted NamedDone) → P e → Q e) → (books : Books) → EachNoted P books → EachNoted Q books
noted_weaker P Q f books = each_weaker (λ b. Each P b.entries) (λ b. Each Q b.entries) (λ b. each_weaker P Q f b.entries) books

with_each : (P : Noted NamedDone → Type 0) (e : Noted NamedDone) (books : Books) → EachNoted P books → P e → EachNoted P (with_record e books)
with_each P e [] a h = tt
with_each P e (b ∷ bs) a h = (each_append P b.entries (e ∷ []) a.0 (h, tt), a.1)

module _ (P : Noted NamedDone → Type 0) (Q : Entry Done → Type 0) (is : (caller n : ℕ) (e : Noted NamedDone) → P e → Q (entry_at caller n e)) where
  in_entries : (caller n : ℕ) (es : List (Noted NamedDone)) → Each P es → Each Q (entries_at caller n es)
  in_entries caller n [] a = tt
  in_entries caller n (e ∷ es) a = (is caller n e a.0, in_entries caller (n + 1) es a.1)

  in_books : (books : Books) → EachNoted P books → (b : Book Done) → IsIn b (by_keys books) → Each Q b.records
  in_books [] a b i = absurd i
  in_books (c ∷ cs) a b (inl e) = subst (λ (z : Book Done). Each Q z.records) e (in_entries c.caller 0 c.entries a.0)
  in_books (c ∷ cs) a b (inr i) = in_books cs a.1 b i

  -- what holds of each record of the books holds of each of their history
  in_history : (books : Books) (history : List (Entry Done)) → IsHistoryOf (by_keys books) history → EachNoted P books → Each Q history
  in_history books history of a = all_in Q history (λ x i. let o = of.only x i in each_in Q o.0.records x (in_books books a o.0 o.1) o.2)

last_is_in : (caller n : ℕ) (es : List (Noted NamedDone)) (e : Noted NamedDone) → (index : ℕ) × IsIn (entry_at caller index e) (entries_at caller n (es ++ e ∷ []))
last_is_in caller n [] e = (n, inl refl)
last_is_in caller n (x ∷ es) e = let i = last_is_in caller (n + 1) es e in (i.0, inr i.1)

before_is_in : (caller n : ℕ) (es fs : List (Noted NamedDone)) (e : Noted NamedDone) → (index : ℕ) × IsIn (entry_at caller index e) (entries_at caller n ((es ++ e ∷ []) ++ fs))
before_is_in caller n [] fs e = (n, inl refl)
before_is_in caller n (x ∷ es) fs e = let i = before_is_in caller (n + 1) es fs e in (i.0, inr i.1)

-- ---- how often the pool was filled

same_total : (caller n : ℕ) (es : List (Noted NamedDone)) → total (λ e. is_fill e.dones) (entries_at caller n es) ≡ total (λ e. is_fill (by_key e.dones)) (records_from unnamed caller n es)
same_total caller n [] = refl
same_total caller n (e ∷ es) = ap (λ (m : ℕ). is_fill (calls_of e) + m) (same_total caller (n + 1) es)

same_fills : (books : Books) → total_of_books (λ e. is_fill e.dones) (by_keys books) ≡ fills_in books
same_fills [] = refl
same_fills (b ∷ bs) = let here = same_total b.caller 0 b.entries in let rest = same_fills bs in omega arith

-- ---- the last two records

module _ (books : Books) (some : 0 < length books) (end : IsAtEnd books) (history : List (Entry Done)) (of : IsHistoryOf (by_keys books) history) where
  -- a record of the books has a later place than the one that found the queue empty only if it is the one that found the pool empty
  abbrev IsBefore : ℕ → Noted NamedDone → Type 0
  IsBefore place e = (e.place ≤ place) ⊎ FoundNothing (calls_of e)

  all_before : (place : ℕ) → end.item.place ≤ place → Each (λ x. IsTrue x.writer → (x.place ≤ place) ⊎ FoundNothing x.dones) history
  all_before place low =
      in_history (IsBefore place) (λ x. IsTrue x.writer → (x.place ≤ place) ⊎ FoundNothing x.dones) (λ caller n e b writer. b) books history of
      (subst (EachNoted (IsBefore place)) (sym end.are)
      (with_each (IsBefore place) end.task (with_record end.item end.others)
      (with_each (IsBefore place) end.item end.others (noted_weaker (λ e. e.place ≤ end.item.place) (IsBefore place) (λ e l. inl (omega arith)) end.others end.last) (inr (inl end.no_item)))
      (inr (inr end.no_task))))

  item_there : (others : Books) → books ≡ with_record end.task (with_record end.item others) → (caller index : ℕ) × IsIn (entry_at caller index end.item) history
  item_there [] are = absurd (let e = ap length are in omega arith)
  item_there (b ∷ bs) are =
      let i = before_is_in b.caller 0 b.entries (end.task ∷ []) end.item in
      (b.caller, i.0, of.all _ _ (subst (λ (z : Books). IsIn (record { caller = b.caller; records = entries_at b.caller 0 ((b.entries ++ end.item ∷ []) ++ end.task ∷ []) }) (by_keys z)) (sym are) (inl refl)) i.1)

  task_there : (others : Books) → books ≡ with_record end.task (with_record end.item others) → (caller index : ℕ) × IsIn (entry_at caller index end.task) history
  task_there [] are = absurd (let e = ap length are in omega arith)
  task_there (b ∷ bs) are =
      let i = last_is_in b.caller 0 (b.entries ++ end.item ∷ []) end.task in
      (b.caller, i.0, of.all _ _ (subst (λ (z : Books). IsIn (record { caller = b.caller; records = entries_at b.caller 0 ((b.entries ++ end.item ∷ []) ++ end.task ∷ []) }) (by_keys z)) (sym are) (inl refl)) i.1)

  none_queued : (e : Entry Done) × IsLastReply history no_item e
  none_queued =
      let i = item_there end.others end.are in
      (entry_at i.0 i.1 end.item, record { there = i.2; alone = end.no_item; last = all_before end.item.place (omega arith) })

  none_pooled : (e : Entry Done) × IsLastReply history no_task e
  none_pooled =
      let i = task_there end.others end.are in
      (entry_at i.0 i.1 end.task, record { there = i.2; alone = end.no_task; last = all_before end.task.place end.order })

-- ---- the whole run

module _ (run : RunPurpose) (findings : ℕ) (store : RunStore) (opened : IsOpenedFor run findings store) (p : RunPass) (given : HasGivenAll store (length run.plan.now.tasks.items) p)
    (some : 0 < length p.pass.books) (history : List (Entry Done)) (contents : StoreState)
    (closed : IsClosed (λ (purpose : RunPurpose). IsLawfulRun (work_of_run purpose)) (λ (purpose : RunPurpose). IsAllowed (work_of_run purpose)) store.table.meaning p.pass p.keys.claims history contents) where
  laid : AreLaidOutBy store.table.meaning.plan p.pass.view.opening (layout_for run.plan.now findings)
  laid = subst (λ (cells : List ℕ). AreLaidOutBy store.table.meaning.plan cells (layout_for run.plan.now findings)) (sym given.pass.of.cells.2) opened.laid_out

  pub finished : BooksSumToHistory → AreBooks (books_by_key p.pass) → IsFinishedRun run.rules.now run.bytes.now run.plan.now findings history contents
  finished sums are =
      let none = none_queued p.pass.books some given.end history closed.records in
      let empty = none_pooled p.pass.books some given.end history closed.records in
      let all : fills_made history ≡ total_of_books (λ e. is_fill e.dones) (books_by_key p.pass) = sums (λ e. is_fill e.dones) (books_by_key p.pass) are history closed.records in
      let same = same_fills p.pass.books in
      let tasks = given.given in
      record {
        legal = (closed.serial (layout_for run.plan.now findings) laid).legal;
        allowed = subst (λ (w : Work). Each (λ e. IsAllowed w e.dones) history) (same_work run store (findings, opened)) closed.may_be;
        item = none.0;
        none_queued = none.1;
        task = empty.0;
        none_pooled = empty.1;
        given = omega arith;
      }

  first_ordered : (maps : List (List (ℕ × ℕ))) → Each AreByKey maps → AreByKey (get_or maps 0 [])
  first_ordered [] a = tt
  first_ordered (m ∷ ms) a = a.0

  pub keys_ordered : AreByKey (get_or contents.maps 0 [])
  keys_ordered = first_ordered contents.maps closed.maps

module _ (rules : List Rule) (bytes : List ℕ) (capture : Capture) (window : ℕ) (plan : Plan) (findings : ℕ) (fine : IsClassifiable bytes capture) (is : IsPlan bytes capture window plan)
    (contents : StoreState) (finds : FindsAll rules bytes capture window plan findings contents) where
  run_to : (history : List (Entry Done)) → IsFinishedRun rules bytes plan findings history contents → IsRunTo rules bytes plan findings history contents
  run_to history finished = record { legal = finished.legal; allowed = finished.allowed; queue = finds.queue; pool = finds.pool }

  -- the log's values in ascending order are the findings
  are_findings : SortedAreFindings → length rules ≤ 1024 → All (λ (f : ℕ). f / 2 ^ 16 % 2 ^ 16 < length rules) (all_findings rules bytes plan.tasks.items)
      → (found : List ℕ) → IsPermutation (get_or contents.logs 0 []) found → IsNonDecreasing found → AreFindings rules bytes plan findings contents found
  are_findings sorts few there found of_log ascend =
      let same : found ≡ findings_of_capture rules bytes window (contents_of capture)
      = sorts rules bytes capture window plan (omega arith) fine is found (IsPermutation-trans _ _ _ finds.found of_log) ascend in
      let all : found ≡ all_findings rules bytes plan.tasks.items = same ∙ ap (λ (tasks : List Task). all_findings rules bytes tasks) (sym is.tasks) in
      record {
        of_log = of_log;
        ascend = ascend;
        all = all;
        few = subst (λ (vs : List ℕ). length vs ≤ findings) (sym same) finds.few;
        rules_there = subst (All (λ (f : ℕ). f / 2 ^ 16 % 2 ^ 16 < length rules)) (sym all) there;
      }

  -- and map 0 has a key for each incomplete group
  counts_incomplete : AreByKey (get_or contents.maps 0 []) → (n : ℕ) → n ≡ length (get_or contents.maps 0 []) → CountsIncomplete plan contents n
  counts_incomplete ordered n keys =
      let groups = keys ∙ finds.keys ordered in
      let few = count_by-le-length (λ number. not (is_complete (members plan.tasks.items number))) (range_with_len 0 (length plan.groups.items)) in
      let all = length-range_with_len 0 (length plan.groups.items) in
      record { keys = keys; groups = groups; few = omega arith }

  pub tells : SortedAreFindings → length rules ≤ 1024 → All (λ (f : ℕ). f / 2 ^ 16 % 2 ^ 16 < length rules) (all_findings rules bytes plan.tasks.items)
      → (history : List (Entry Done)) → IsFinishedRun rules bytes plan findings history contents → AreByKey (get_or contents.maps 0 []) → Tells rules bytes plan findings history contents
  tells sorts few there history finished ordered = record {
    run = run_to history finished;
    found = are_findings sorts few there;
    incomplete = counts_incomplete ordered;
  }

-- Records that are added one after another, and what they took.
use Rattle.std.proofs.Common.{◌≡◌, ℕ, ◌+◌, ◌*◌, ◌≤◌, inl, inr, List, [], ◌∷◌, ◌++◌, length, refl, sym, ap, ◌∙◌, arith, length-append}
use Rattle.cell_table.specs.declared.view.Noted.{Noted}
use Rattle.run_stages.specs.Allowed.{IsAllowed, gives, next_batch}
use Rattle.run_stages.specs.Ends.{is_fill, tasks_taken, items_taken}
use Rattle.run_stages.specs.Work.{Work}
use Rattle.serial_terms.specs.declared.call.Done.{Done}
use Rattle.serial_terms.specs.Entries.{Each}
use Rattle.serial_terms.specs.Facts.{each_append}
use Rattle.serial_terms.specs.Renaming.{NamedDone}
use Rattle.serial_terms.specs.Worked.{no_item, no_task}
use Rattle.inspect_workers.specs.Noted.{Books, Adds, AddsUpTo, calls_of, with_record, with_records, IsOfWorker, IsMatched, IsTaken}
use Rattle.inspect_workers.specs.Turns.{HasWorked}
use Rattle.inspect_workers.specs.Works.{HasTurned, taken_in}

pub with_append : (es fs : List (Noted NamedDone)) (books : Books) → with_records (es ++ fs) books ≡ with_records fs (with_records es books)
with_append [] fs books = refl
with_append (e ∷ es) fs books = with_append es fs (with_record e books)

taken_append : (es fs : List (Noted NamedDone)) → taken_in (es ++ fs) ≡ taken_in es + taken_in fs
taken_append [] fs = omega arith
taken_append (e ∷ es) fs = let a = taken_append es fs in omega arith

-- ---- which records are a worker's

no_taken : (is : List ℕ) (w : Work) → (tasks_taken (gives w is) ≡ 0) × (items_taken (gives w is) ≡ 0)
no_taken [] w = (refl, refl)
no_taken (i ∷ is) w = let n = no_taken is w in (omega (arith, n.0), omega (arith, n.1))

module _ (w : Work) where
  no_fill : (ds : List Done) → IsAllowed w ds → 1 ≤ tasks_taken ds + items_taken ds → is_fill ds ≡ 0
  no_fill ds (IsAllowed.take_whole i whole e) some = ap is_fill e
  no_fill ds (IsAllowed.take_fragment h i old member e) some = ap is_fill e
  no_fill ds (IsAllowed.match_whole i more whole appends e) some = ap is_fill e
  no_fill ds (IsAllowed.match_group h x before more low appends e) some = ap is_fill e
  no_fill ds (IsAllowed.nothing_queued e) some = ap is_fill e
  no_fill ds (IsAllowed.nothing_pooled e) some = ap is_fill e
  no_fill ds (IsAllowed.fill f left e) some =
      let n = no_taken (next_batch w f) w in
      let t = ap tasks_taken e in
      let i = ap items_taken e in absurd (omega (arith, n.0, n.1, t, i, some))

  of_matched : (ds : List Done) → IsMatched w ds → IsOfWorker w ds
  of_matched ds is = record { allowed = is.allowed; no_fill = no_fill ds is.allowed (let o = is.one in omega arith) }

  of_taken : (ds : List Done) → IsTaken w ds → IsOfWorker w ds
  of_taken ds is = record { allowed = is.allowed; no_fill = no_fill ds is.allowed (let o = is.one in omega arith) }

  of_no_item : (ds : List Done) → ds ≡ no_item ∷ [] → IsOfWorker w ds
  of_no_item ds e = record { allowed = IsAllowed.nothing_queued e; no_fill = ap is_fill e }

  of_no_task : (ds : List Done) → ds ≡ no_task ∷ [] → IsOfWorker w ds
  of_no_task ds e = record { allowed = IsAllowed.nothing_pooled e; no_fill = ap is_fill e }

  -- ---- turns

  pub none_turned : (books : Books) → HasTurned w 0 books books
  none_turned books = record { entries = []; books = refl; few = omega arith; calls = tt; many = omega arith }

  turned : (turns : ℕ) (old middle new : Books) (more : List (Noted NamedDone)) → HasTurned w turns old middle → new ≡ with_records more middle → length more ≤ 2
      → Each (λ e. IsOfWorker w (calls_of e)) more → 1 ≤ taken_in more → HasTurned w (turns + 1) old new
  turned turns old middle new more so_far e few calls many = record {
    entries = so_far.entries ++ more;
    books = e ∙ (ap (with_records more) so_far.books ∙ sym (with_append so_far.entries more old));
    few = let a = so_far.few in let l = length-append so_far.entries more in omega arith;
    calls = each_append (λ x. IsOfWorker w (calls_of x)) so_far.entries more so_far.calls calls;
    many = let a = so_far.many in let t = taken_append so_far.entries more in omega arith;
  }

  pub turned_more : (turns : ℕ) (old middle new : Books) → HasTurned w turns old middle → HasWorked w middle new → HasTurned w (turns + 1) old new
  turned_more turns old middle new so_far (inl one) =
      turned turns old middle new (one.entry ∷ []) so_far one.books (omega arith) (of_matched _ one.calls, tt) (let o = one.calls.one in omega arith)
  turned_more turns old middle new so_far (inr two) =
      let first = two.1 in let second = two.2 in
      turned turns old middle new (first.entry ∷ second.entry ∷ []) so_far (second.books ∙ ap (with_record second.entry) first.books) (omega arith)
      (of_no_item _ first.calls, (of_taken _ second.calls, tt)) (let o = second.calls.one in omega arith)

  pub turned_up_to : (turns n : ℕ) (old new : Books) → 2 * turns ≤ n → HasTurned w turns old new → AddsUpTo n (IsOfWorker w) old new
  turned_up_to turns n old new low is = record { entries = is.entries; few = let f = is.few in omega arith; books = is.books; calls = is.calls }

  -- ---- and the records of a last turn

  pub none_more : (n : ℕ) (old middle new : Books) → new ≡ middle → AddsUpTo n (IsOfWorker w) old middle → AddsUpTo (n + 2) (IsOfWorker w) old new
  none_more n old middle new e is = record { entries = is.entries; few = let f = is.few in omega arith; books = e ∙ is.books; calls = is.calls }

  two_more : (n : ℕ) (old middle new : Books) (more : List (Noted NamedDone)) → AddsUpTo n (IsOfWorker w) old middle → new ≡ with_records more middle → length more ≤ 2
      → Each (λ e. IsOfWorker w (calls_of e)) more → AddsUpTo (n + 2) (IsOfWorker w) old new
  two_more n old middle new more is e few calls = record {
    entries = is.entries ++ more;
    few = let a = is.few in let l = length-append is.entries more in omega arith;
    books = e ∙ (ap (with_records more) is.books ∙ sym (with_append is.entries more old));
    calls = each_append (λ x. IsOfWorker w (calls_of x)) is.entries more is.calls calls;
  }

  pub item_more : (n : ℕ) (old middle last new : Books) → AddsUpTo n (IsOfWorker w) old middle → Adds (λ calls. calls ≡ no_item ∷ []) middle last → new ≡ last → AddsUpTo (n + 2) (IsOfWorker w) old new
  item_more n old middle last new is one e = two_more n old middle new (one.entry ∷ []) is (e ∙ one.books) (omega arith) (of_no_item _ one.calls, tt)

  pub both_more : (n : ℕ) (old middle new : Books) (item task : Noted NamedDone) → AddsUpTo n (IsOfWorker w) old middle → new ≡ with_record task (with_record item middle)
      → calls_of item ≡ no_item ∷ [] → calls_of task ≡ no_task ∷ [] → AddsUpTo (n + 2) (IsOfWorker w) old new
  both_more n old middle new item task is e i t = two_more n old middle new (item ∷ task ∷ []) is e (omega arith) (of_no_item _ i, (of_no_task _ t, tt))

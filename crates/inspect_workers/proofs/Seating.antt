-- The fills in the books of passes that are split, run and joined.
use Rattle.std.proofs.Common.{◌≡◌, ℕ, suc, zero, ◌+◌, ◌≤◌, Bool, true, false, cond, ltb, List, [], ◌∷◌, ◌++◌, take, drop, Option, Some, refl, sym, ap, ◌∙◌, subst, arith}
use Rattle.cell_table.specs.declared.view.Noted.{Noted}
use Rattle.cell_table.specs.declared.view.NotedBook.{NotedBook}
use Rattle.cell_table.specs.Pass.{book_key}
use Rattle.cell_table.specs.Sorted.{insert_by, merge_by}
use Rattle.run_stages.specs.Ends.{is_fill}
use Rattle.run_stages.specs.Work.{Work}
use Rattle.serial_terms.specs.Entries.{Each, total}
use Rattle.serial_terms.specs.Renaming.{NamedDone, by_key}
use Rattle.store_history.specs.Books.{records_from}
use Rattle.tx_store.specs.Runs.{IsLeft}
use Rattle.inspect_workers.specs.Noted.{Books, AddsUpTo, IsOfWorker, calls_of, with_record, with_records, fills_in}
use Rattle.inspect_workers.specs.Seats.{RunPass, RunStore, HasRunAt}
use Rattle.inspect_workers.specs.Works.{most_draws}

-- ---- books

one_more : (k n : ℕ) (es : List (Noted NamedDone)) (e : Noted NamedDone)
    → total (λ e. is_fill (by_key e.dones)) (records_from (λ (dones : List NamedDone). dones) k n (es ++ e ∷ []))
    ≡ total (λ e. is_fill (by_key e.dones)) (records_from (λ (dones : List NamedDone). dones) k n es) + is_fill (calls_of e)
one_more k n [] e = omega arith
one_more k n (x ∷ es) e = let more = one_more k (n + 1) es e in omega (arith, more)

record_stays : (e : Noted NamedDone) (books : Books) → is_fill (calls_of e) ≡ 0 → fills_in (with_record e books) ≡ fills_in books
record_stays e [] none = refl
record_stays e (b ∷ bs) none = let more = one_more b.caller 0 b.entries e in omega (arith, more, none)

-- a worker's records fill nothing
pub records_stay : (w : Work) (es : List (Noted NamedDone)) (books : Books) → Each (λ e. IsOfWorker w (calls_of e)) es → fills_in (with_records es books) ≡ fills_in books
records_stay w [] books each = refl
records_stay w (e ∷ es) books each = records_stay w es (with_record e books) each.1 ∙ record_stays e books each.0.no_fill

pub fills_parted : (n : ℕ) (books : Books) → fills_in (take n books) + fills_in (drop n books) ≡ fills_in books
fills_parted zero books = omega arith
fills_parted (suc n) [] = refl
fills_parted (suc n) (b ∷ bs) = let rest = fills_parted n bs in omega (arith, rest)

fills_either : (c : Bool) (bs cs : Books) (n : ℕ) → fills_in bs ≡ n → fills_in cs ≡ n → fills_in (cond c bs cs) ≡ n
fills_either true bs cs n a b = a
fills_either false bs cs n a b = b

fills_inserted : (b : NotedBook NamedDone) (bs : Books) → fills_in (insert_by book_key b bs) ≡ fills_in (b ∷ bs)
fills_inserted b [] = refl
fills_inserted b (c ∷ bs) = fills_either (ltb (book_key b) (book_key c)) (b ∷ c ∷ bs) (c ∷ insert_by book_key b bs) (fills_in (b ∷ c ∷ bs)) refl
    (let rest = fills_inserted b bs in omega (arith, rest))

pub fills_merged : (bs cs : Books) → fills_in (merge_by book_key bs cs) ≡ fills_in bs + fills_in cs
fills_merged [] cs = omega arith
fills_merged (b ∷ bs) cs = let first = fills_inserted b (merge_by book_key bs cs) in let rest = fills_merged bs cs in omega (arith, first, rest)

-- ---- a worker's run

room_stays : (n : ℕ) (p q : RunPass) → q.pass.room ≡ p.pass.room → n ≤ p.pass.room → n ≤ q.pass.room
room_stays n p q e low = omega (arith, e, low)

ran : (store : RunStore) (w : Work) (n : ℕ) (p q : RunPass) → IsLeft store most_draws p q
    → AddsUpTo n (IsOfWorker w) p.pass.books q.pass.books → HasRunAt store (Some p) (Some q)
ran store w n p q left adds = record {
  rest = record { of = left.of; idle = left.idle };
  room = λ k low. room_stays k p q left.room low;
  callers = left.callers;
  draws = let d = left.draws in omega (arith, d);
  fills = ap fills_in adds.books ∙ records_stay w adds.entries p.pass.books adds.calls;
}

pub ran_at : (store : RunStore) (w : Work) (n : ℕ) (old : Option RunPass) (p q : RunPass) → old ≡ Some p → IsLeft store most_draws p q
    → AddsUpTo n (IsOfWorker w) p.pass.books q.pass.books → HasRunAt store old (Some q)
ran_at store w n old p q is left adds = subst (λ o. HasRunAt store o (Some q)) (sym is) (ran store w n p q left adds)

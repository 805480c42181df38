-- How often the pool was filled, by the records of books.
use Rattle.std.proofs.Common.{◌≡◌, ℕ, zero, suc, ◌+◌, ◌<◌, List, [], ◌∷◌, ◌++◌, length, refl, ap, ◌∙◌, arith}
use Rattle.cell_table.specs.declared.view.Noted.{Noted}
use Rattle.cell_table.specs.Pass.{new_noted}
use Rattle.run_stages.specs.Ends.{is_fill}
use Rattle.run_stages.specs.Work.{Work}
use Rattle.serial_terms.specs.Entries.{Each, total}
use Rattle.serial_terms.specs.Renaming.{NamedDone, by_key}
use Rattle.store_history.specs.Books.{records_from}
use Rattle.inspect_workers.specs.Noted.{Books, Adds, IsFill, IsOfWorker, calls_of, with_record, with_records, fills_in}
use Rattle.inspect_workers.proofs.Placing.{unnamed}

pub one_more : (k n : ℕ) (es : List (Noted NamedDone)) (e : Noted NamedDone) → total (λ x. is_fill (by_key x.dones)) (records_from unnamed k n (es ++ e ∷ []))
    ≡ total (λ x. is_fill (by_key x.dones)) (records_from unnamed k n es) + is_fill (calls_of e)
one_more k n [] e = omega arith
one_more k n (x ∷ es) e = let more = one_more k (n + 1) es e in omega (arith, more)

record_stays : (e : Noted NamedDone) (books : Books) → is_fill (calls_of e) ≡ 0 → fills_in (with_record e books) ≡ fills_in books
record_stays e [] none = refl
record_stays e (b ∷ bs) none = let more = one_more b.caller 0 b.entries e in omega (arith, more, none)

-- a worker's records fill nothing
pub records_stay : (w : Work) (es : List (Noted NamedDone)) (books : Books) → Each (λ e. IsOfWorker w (calls_of e)) es → fills_in (with_records es books) ≡ fills_in books
records_stay w [] books each = refl
records_stay w (e ∷ es) books each = records_stay w es (with_record e books) each.1 ∙ record_stays e books each.0.no_fill

record_adds : (e : Noted NamedDone) (books : Books) → 0 < length books → fills_in (with_record e books) ≡ fills_in books + is_fill (calls_of e)
record_adds e [] some = absurd (omega arith)
record_adds e (b ∷ bs) some = let more = one_more b.caller 0 b.entries e in omega (arith, more)

-- and a fill is one more
pub one_fill : (w : Work) (old new : Books) → 0 < length old → Adds (IsFill w) old new → fills_in new ≡ fills_in old + 1
one_fill w old new some is = let more = record_adds is.entry old some in let one = is.calls.one in let same = ap fills_in is.books in omega (arith, more, one, same)

-- new books have none
pub none_new : (k n : ℕ) → fills_in (new_noted k n) ≡ 0
none_new k zero = refl
none_new k (suc n) = let rest = none_new (suc k) n in omega (arith, rest)

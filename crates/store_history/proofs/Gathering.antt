-- Records that move from the last book into the list.
use Rattle.std.proofs.Common.{◌≡◌, ℕ, ◌+◌, ◌≤◌, List, [], ◌∷◌, ◌++◌, sym, ap, ◌∙◌, subst, arith, append_assoc, vec_len}
use Rattle.std.specs.Prelude.{IsPermutation}
use Rattle.std.proofs.lemmas.List.{append-nil}
use Rattle.std.proofs.lemmas.List.Sums.{sum_by-cons}
use Rattle.std.proofs.lemmas.List.Sorted.{IsPermutation-trans, IsPermutation-append_right, IsPermutation-append_comm}
use Rattle.serial_terms.specs.declared.committed.Record.{Record}
use Rattle.store_history.specs.Records.{records_in, record_count}
use Rattle.store_history.specs.declared.merge.RecordBook.{RecordBook}

records_last : (bs : List RecordBook) (b : RecordBook) → records_in (bs ++ b ∷ []) ≡ records_in bs ++ b.records.items
records_last [] b = append-nil b.records.items
records_last (c ∷ cs) b = ap (λ (z : List Record). c.records.items ++ z) (records_last cs b) ∙ sym (append_assoc c.records.items (records_in cs) b.records.items)

count_last : (bs : List RecordBook) (b : RecordBook) → record_count (bs ++ b ∷ []) ≡ record_count bs + vec_len b.records
count_last [] b = omega arith
count_last (c ∷ cs) b = let i = count_last cs b in let j = sum_by-cons (λ d. vec_len d.records) c (cs ++ b ∷ []) in let k = sum_by-cons (λ d. vec_len d.records) c cs in omega arith

rest_moves : (all : List Record) (bs : List RecordBook) (b : RecordBook) (h : List Record) → IsPermutation all (records_in (bs ++ b ∷ []) ++ h) → IsPermutation all (records_in bs ++ (h ++ b.records.items))
rest_moves all bs b h p = IsPermutation-trans all (records_in bs ++ (b.records.items ++ h)) (records_in bs ++ (h ++ b.records.items))
    (subst (IsPermutation all) (ap (λ (z : List Record). z ++ h) (records_last bs b) ∙ append_assoc (records_in bs) b.records.items h) p)
    (IsPermutation-append_right (records_in bs) (b.records.items ++ h) (h ++ b.records.items) (IsPermutation-append_comm b.records.items h))

pub moved : (all : List Record) (old new : List RecordBook) (b : RecordBook) (h more : List Record) (n m room cap : ℕ) → old ≡ new ++ b ∷ [] → more ≡ h ++ b.records.items → m ≡ n + vec_len b.records → room ≤ cap
    → IsPermutation all (records_in old ++ h) × (n + record_count old ≤ room) → IsPermutation all (records_in new ++ more) × (m + record_count new ≤ cap)
moved all old new b h more n m room cap last is len grows inv = (
  subst (λ (z : List Record). IsPermutation all (records_in new ++ z)) (sym is) (rest_moves all new b h (subst (λ (z : List RecordBook). IsPermutation all (records_in z ++ h)) last inv.0)),
  (let c = ap record_count last ∙ count_last new b in let l = inv.1 in omega arith),
)

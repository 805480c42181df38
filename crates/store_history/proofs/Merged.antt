-- Sorted records of books are their history.
use Rattle.std.proofs.Common.{◌≡◌, ◌≢◌, ℕ, zero, suc, ◌<◌, Bool, true, false, cond, eqb, List, [], ◌∷◌, ◌++◌, length, get_or, inl, inr, ⊎_elim, sym, refl, ap, ◌∙◌, subst, arith}
use Rattle.std.specs.Prelude.{not, IsPermutation, Contains}
use Rattle.std.specs.List.{IsDistinct, AllByRecursion}
use Rattle.std.proofs.lemmas.Bool.Decides.{nat_tests}
use Rattle.std.proofs.lemmas.Grind.{common_steps}
use Rattle.std.proofs.lemmas.List.Sorted.{IsPermutation-trans, IsPermutation-sym, Contains-permutation}
use Rattle.std.proofs.lemmas.Map.Keys.{IsDistinct-IsPermutation}
use mathlib.Core.Logic.{dite}
use native.Mathlib.Decide.{ℕ_discrete}
use Rattle.serial_terms.specs.declared.call.Done.{Done}
use Rattle.serial_terms.specs.declared.committed.Record.{Record}
use Rattle.serial_terms.specs.Entries.{Entry, Each, IsIn, Precedes, IsInOrder, Book, AreBooks, IsHistoryOf}
use Rattle.serial_terms.specs.Histories.{entry_of, entries_of}
use Rattle.store_history.specs.Records.{books_in, records_in, ComesNoLater, AreInOrder}
use Rattle.store_history.specs.declared.merge.RecordBook.{RecordBook}
use Rattle.store_history.proofs.Lists.{true_or_false}

-- ---- elements

module _ {A : Type 0} where
  contains : (x : A) (xs : List A) → IsIn x xs → Contains xs x
  contains x [] i = absurd i
  contains x (y ∷ ys) i = ⊎_elim (λ e. (0, omega arith, e)) (λ j. let r = contains x ys j in let l = r.1 in (suc r.0, omega arith, r.2)) i

  is_in : (x : A) (xs : List A) (k : ℕ) → k < length xs → get_or xs k x ≡ x → IsIn x xs
  is_in x [] k l e = absurd (omega arith)
  is_in x (y ∷ ys) zero l e = inl e
  is_in x (y ∷ ys) (suc k) l e = inr (is_in x ys k (omega arith) e)

  shuffled : (xs ys : List A) → IsPermutation xs ys → (x : A) → IsIn x xs → IsIn x ys
  shuffled xs ys p x i = let r = Contains-permutation xs ys x p (contains x xs i) in is_in x ys r.0 r.1 r.2

  in_left : (x : A) (xs ys : List A) → IsIn x xs → IsIn x (xs ++ ys)
  in_left x [] ys i = absurd i
  in_left x (y ∷ xs) ys i = ⊎_elim (λ e. inl e) (λ j. inr (in_left x xs ys j)) i

  in_right : (x : A) (xs ys : List A) → IsIn x ys → IsIn x (xs ++ ys)
  in_right x [] ys i = i
  in_right x (y ∷ xs) ys i = inr (in_right x xs ys i)

  in_either : {Z : Type 0} (x : A) (xs ys : List A) → (IsIn x xs → Z) → (IsIn x ys → Z) → IsIn x (xs ++ ys) → Z
  in_either x [] ys f g i = g i
  in_either x (y ∷ xs) ys f g i = ⊎_elim (λ e. f (inl e)) (λ j. in_either x xs ys (λ k. f (inr k)) g j) i

  every_append : (P : A → Type 0) (xs ys : List A) → AllByRecursion P xs → AllByRecursion P ys → AllByRecursion P (xs ++ ys)
  every_append P [] ys a b = b
  every_append P (x ∷ xs) ys a b = (a.0, every_append P xs ys a.1 b)

  every_map : (P Q : A → Type 0) → ((x : A) → P x → Q x) → (xs : List A) → AllByRecursion P xs → AllByRecursion Q xs
  every_map P Q f [] a = tt
  every_map P Q f (x ∷ xs) a = (f x a.0, every_map P Q f xs a.1)

  distinct_append : (e : A → A → Bool) (xs ys : List A) → IsDistinct e xs → IsDistinct e ys → AllByRecursion (λ x. AllByRecursion (λ y. e x y ≡ false) ys) xs → IsDistinct e (xs ++ ys)
  unfolding IsDistinct
  distinct_append e [] ys a b c = b
  distinct_append e (x ∷ xs) ys a b c = (every_append (λ y. e x y ≡ false) xs ys a.0 c.0, distinct_append e xs ys a.1 b c.1)

-- ---- records at one place of the order

abbrev same : Record → Record → Bool
same a b = cond (eqb a.place b.place) (cond (cond a.writer b.writer (not b.writer)) (cond (eqb a.caller b.caller) (eqb a.index b.index) false) false) false

flips_so : (p q : ℕ) (v w : Bool) (c d i j : ℕ) → cond (eqb p q) (cond (cond v w (not w)) (cond (eqb c d) (eqb i j) false) false) false ≡ cond (eqb q p) (cond (cond w v (not v)) (cond (eqb d c) (eqb j i) false) false) false
flips_so p q true true c d i j = grind (arith, nat_tests, common_steps)
flips_so p q true false c d i j = grind (arith, nat_tests, common_steps)
flips_so p q false true c d i j = grind (arith, nat_tests, common_steps)
flips_so p q false false c d i j = grind (arith, nat_tests, common_steps)

flips : (a b : Record) → same a b ≡ same b a
flips a b = flips_so a.place b.place a.writer b.writer a.caller b.caller a.index b.index

same_so : (p c i : ℕ) (v : Bool) → cond (eqb p p) (cond (cond v v (not v)) (cond (eqb c c) (eqb i i) false) false) false ≡ true
same_so p c i true = grind (arith, nat_tests, common_steps)
same_so p c i false = grind (arith, nat_tests, common_steps)

callers_differ : (a b : Record) → a.caller ≢ b.caller → same a b ≡ false
callers_differ a b n = grind (arith, nat_tests, common_steps)

precede_apart : (a b : Record) → Precedes (entry_of a) (entry_of b) → same a b ≡ false
precede_apart a b p = ⊎_elim
    (λ l. grind (arith, nat_tests))
    (λ x. ⊎_elim
    (λ w. let u = w.0 in let z = w.1 in grind (arith, nat_tests, common_steps))
    (λ w. ⊎_elim (λ c. grind (arith, nat_tests, common_steps)) (λ c. let i = c.1 in grind (arith, nat_tests, common_steps)) w.1)
    x.1)
    p

no_later_apart : (a b : Record) → ComesNoLater a b → same a b ≡ false → Precedes (entry_of a) (entry_of b)
no_later_apart a b p n = ⊎_elim
    (λ l. inl l)
    (λ x. inr (
      x.0,
      ⊎_elim
          (λ w. inl w)
          (λ w. inr (
            w.0,
            ⊎_elim
                (λ c. inl c)
                (λ c. let l = c.1 in dite (ℕ_discrete a.index b.index) (λ e. absurd (true_or_false (same a b) (one x.0 w.0 c.0 e) n)) (λ e. inr (c.0, omega arith)))
                w.1,
          ))
          x.1,
    ))
    p
  where
    one : a.place ≡ b.place → a.writer ≡ b.writer → a.caller ≡ b.caller → a.index ≡ b.index → same a b ≡ true
    one x w c i = (λ k. cond (eqb a.place (sym x k)) (cond (cond a.writer (sym w k) (not (sym w k))) (cond (eqb a.caller (sym c k)) (eqb a.index (sym i k)) false) false) false) ∙ same_so a.place a.caller a.index a.writer

-- ---- the records of books

in_entries : (r : Record) (rs : List Record) → IsIn r rs → IsIn (entry_of r) (entries_of rs)
in_entries r [] i = absurd i
in_entries r (x ∷ xs) i = ⊎_elim (λ e. inl (ap entry_of e)) (λ j. inr (in_entries r xs j)) i

of_entries : (e : Entry Done) (rs : List Record) → IsIn e (entries_of rs) → (r : Record) × IsIn r rs × (entry_of r ≡ e)
of_entries e [] i = absurd i
of_entries e (x ∷ xs) i = ⊎_elim (λ q. (x, inl refl, q)) (λ j. let r = of_entries e xs j in (r.0, inr r.1, r.2)) i

abbrev book_in : RecordBook → Book Done
book_in b = record { caller = b.caller; records = entries_of b.records.items }

in_books : (b : RecordBook) (bs : List RecordBook) → IsIn b bs → IsIn (book_in b) (books_in bs)
in_books b [] i = absurd i
in_books b (c ∷ cs) i = ⊎_elim (λ e. inl (ap book_in e)) (λ j. inr (in_books b cs j)) i

of_books : (b : Book Done) (bs : List RecordBook) → IsIn b (books_in bs) → (c : RecordBook) × IsIn c bs × (book_in c ≡ b)
of_books b [] i = absurd i
of_books b (c ∷ cs) i = ⊎_elim (λ q. (c, inl refl, q)) (λ j. let r = of_books b cs j in (r.0, inr r.1, r.2)) i

in_records : (r : Record) (b : RecordBook) (bs : List RecordBook) → IsIn b bs → IsIn r b.records.items → IsIn r (records_in bs)
in_records r b [] i j = absurd i
in_records r b (c ∷ cs) i j = ⊎_elim
    (λ e. in_left r c.records.items (records_in cs) (subst (λ (z : RecordBook). IsIn r z.records.items) (sym e) j))
    (λ k. in_right r c.records.items (records_in cs) (in_records r b cs k j))
    i

of_records : (r : Record) (bs : List RecordBook) → IsIn r (records_in bs) → (b : RecordBook) × IsIn b bs × IsIn r b.records.items
of_records r [] i = absurd i
of_records r (c ∷ cs) i = in_either r c.records.items (records_in cs) (λ j. (c, inl refl, j)) (λ j. let b = of_records r cs j in (b.0, inr b.1, b.2)) i

-- ---- no two of them are at one place of the order

apart_behind : (r : Record) (rs : List Record) → Each (Precedes (entry_of r)) (entries_of rs) → AllByRecursion (λ x. same r x ≡ false) rs
apart_behind r [] a = tt
apart_behind r (x ∷ xs) a = (precede_apart r x a.0, apart_behind r xs a.1)

book_distinct : (rs : List Record) → IsInOrder (entries_of rs) → IsDistinct same rs
unfolding IsDistinct
book_distinct [] o = tt
book_distinct (r ∷ rs) o = (apart_behind r rs o.0, book_distinct rs o.1)

callers_of_book : (k : ℕ) (rs : List Record) → Each (λ e. e.caller ≡ k) (entries_of rs) → AllByRecursion (λ r. r.caller ≡ k) rs
callers_of_book k [] a = tt
callers_of_book k (r ∷ rs) a = (a.0, callers_of_book k rs a.1)

other_callers : (k : ℕ) (bs : List RecordBook) → Each (λ c. k ≢ c.caller) (books_in bs) → AreBooks (books_in bs) → AllByRecursion (λ r. k ≢ r.caller) (records_in bs)
other_callers k [] n a = tt
other_callers k (b ∷ bs) n a = every_append (λ r. k ≢ r.caller) b.records.items (records_in bs)
    (every_map (λ r. r.caller ≡ b.caller) (λ r. k ≢ r.caller) (λ r e q. n.0 (q ∙ e)) b.records.items (callers_of_book b.caller b.records.items a.0))
    (other_callers k bs n.1 a.3)

all_distinct : (bs : List RecordBook) → AreBooks (books_in bs) → IsDistinct same (records_in bs)
unfolding IsDistinct
all_distinct [] a = tt
all_distinct (b ∷ bs) a = distinct_append same b.records.items (records_in bs) (book_distinct b.records.items a.1) (all_distinct bs a.3)
    (every_map (λ r. r.caller ≡ b.caller) (λ r. AllByRecursion (λ x. same r x ≡ false) (records_in bs))
    (λ r e. every_map (λ x. b.caller ≢ x.caller) (λ x. same r x ≡ false) (λ x n. callers_differ r x (λ q. n (sym e ∙ q))) (records_in bs) (other_callers b.caller bs a.2 a.3))
    b.records.items (callers_of_book b.caller b.records.items a.0))

-- ---- so they are in order

precede_all : (r : Record) (rs : List Record) → Each (ComesNoLater r) rs → AllByRecursion (λ x. same r x ≡ false) rs → Each (Precedes (entry_of r)) (entries_of rs)
precede_all r [] a d = tt
precede_all r (x ∷ xs) a d = (no_later_apart r x a.0 d.0, precede_all r xs a.1 d.1)

strictly : (rs : List Record) → AreInOrder rs → IsDistinct same rs → IsInOrder (entries_of rs)
unfolding IsDistinct
strictly [] o d = tt
strictly (r ∷ rs) o d = (precede_all r rs o.0 d.0, strictly rs o.1 d.1)

pub sorted_history : (bs : List RecordBook) (gathered sorted : List Record) → AreBooks (books_in bs) → IsPermutation (records_in bs) gathered → IsPermutation gathered sorted → AreInOrder sorted → IsHistoryOf (books_in bs) (entries_of sorted)
sorted_history bs gathered sorted books moved moves order =
    let p : IsPermutation (records_in bs) sorted = IsPermutation-trans (records_in bs) gathered sorted moved moves in record {
      order = strictly sorted order (IsDistinct-IsPermutation same flips (records_in bs) sorted p (all_distinct bs books));
      all = λ b e i j. let c = of_books b bs i in let r = of_entries e c.0.records.items (subst (λ (z : Book Done). IsIn e z.records) (sym c.2) j) in
          subst (λ (z : Entry Done). IsIn z (entries_of sorted)) r.2 (in_entries r.0 sorted (shuffled (records_in bs) sorted p r.0 (in_records r.0 c.0 bs c.1 r.1)));
      only = λ e i. let r = of_entries e sorted i in let b = of_records r.0 bs (shuffled sorted (records_in bs) (IsPermutation-sym (records_in bs) sorted p) r.0 r.1) in
          (book_in b.0, in_books b.0 bs b.1, subst (λ (z : Entry Done). IsIn z (entries_of b.0.records.items)) r.2 (in_entries r.0 b.0.records.items b.2));
    }

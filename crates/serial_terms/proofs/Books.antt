-- A history of books.
use Rattle.std.proofs.Common.{◌≡◌, ◌≢◌, ℕ, ◌+◌, eqb, List, [], ◌∷◌, inl, inr, ⊎_elim, sym, refl, ap, ◌∙◌, subst, arith, eq-eqb, ne_eqb}
use mathlib.Core.Logic.{dite}
use native.Mathlib.Decide.{ℕ_discrete}
use Rattle.serial_terms.specs.Entries.{Entry, Each, IsIn, Precedes, IsInOrder, by_caller, Book, AreBooks, IsHistoryOf, total, total_of_books}
use Rattle.serial_terms.specs.Laws.{HistoryKeepsBooks, BooksSumToHistory}
use Rattle.serial_terms.proofs.Ordering.{unique}
use Rattle.std.proofs.lemmas.Bool.{cond-true, cond-false}
use Rattle.serial_terms.proofs.Basics.{in_each}

module _ {D : Type 0} where
  own : (k : ℕ) (e : Entry D) (es : List (Entry D)) → e.caller ≡ k → by_caller k (e ∷ es) ≡ e ∷ by_caller k es
  own k e es q = cond-true (eqb e.caller k) (e ∷ by_caller k es) (by_caller k es) (eq-eqb e.caller k q)

  other : (k : ℕ) (e : Entry D) (es : List (Entry D)) → e.caller ≢ k → by_caller k (e ∷ es) ≡ by_caller k es
  other k e es q = cond-false (eqb e.caller k) (e ∷ by_caller k es) (by_caller k es) (ne_eqb e.caller k q)

  each_by : (P : Entry D → Type 0) (k : ℕ) (es : List (Entry D)) → Each P es → Each P (by_caller k es)
  each_by P k [] a = tt
  each_by P k (e ∷ es) a = dite (ℕ_discrete e.caller k) (λ q. subst (Each P) (sym (own k e es q)) (a.0, each_by P k es a.1)) (λ q. subst (Each P) (sym (other k e es q)) (each_by P k es a.1))

  order_by : (k : ℕ) (es : List (Entry D)) → IsInOrder es → IsInOrder (by_caller k es)
  order_by k [] a = tt
  order_by k (e ∷ es) a = dite (ℕ_discrete e.caller k) (λ q. subst IsInOrder (sym (own k e es q)) (each_by (Precedes e) k es a.0, order_by k es a.1)) (λ q. subst IsInOrder (sym (other k e es q)) (order_by k es a.1))

  from_by : (k : ℕ) (x : Entry D) (es : List (Entry D)) → IsIn x (by_caller k es) → IsIn x es × (x.caller ≡ k)
  from_by k x [] i = absurd i
  from_by k x (e ∷ es) i = dite (ℕ_discrete e.caller k)
      (λ q. ⊎_elim (λ y. (inl y, ap (λ (z : Entry D). z.caller) (sym y) ∙ q)) (λ j. let r = from_by k x es j in (inr r.0, r.1)) (subst (IsIn x) (own k e es q) i))
      (λ q. let r = from_by k x es (subst (IsIn x) (other k e es q) i) in (inr r.0, r.1))

  to_by : (k : ℕ) (x : Entry D) (es : List (Entry D)) → x.caller ≡ k → IsIn x es → IsIn x (by_caller k es)
  to_by k x [] c i = i
  to_by k x (e ∷ es) c i = ⊎_elim
      (λ y. subst (IsIn x) (sym (own k e es (ap (λ (z : Entry D). z.caller) y ∙ c))) (inl y))
      (λ j. dite (ℕ_discrete e.caller k) (λ q. subst (IsIn x) (sym (own k e es q)) (inr (to_by k x es c j))) (λ q. subst (IsIn x) (sym (other k e es q)) (to_by k x es c j)))
      i

  nothing : (es : List (Entry D)) → ((x : Entry D) → IsIn x es → ⊥) → es ≡ []
  nothing [] n = refl
  nothing (e ∷ es) n = absurd (n e (inl refl))

  -- a book's records, in order and of its caller
  book_of : (bs : List (Book D)) (b : Book D) → AreBooks bs → IsIn b bs → Each (λ e. e.caller ≡ b.caller) b.records × IsInOrder b.records
  book_of [] b a i = absurd i
  book_of (c ∷ cs) b a i = ⊎_elim (λ y. subst (λ (z : Book D). Each (λ e. e.caller ≡ z.caller) z.records × IsInOrder z.records) y (a.0, a.1)) (λ j. book_of cs b a.3 j) i

  -- the book of a caller
  one_book : (bs : List (Book D)) (b c : Book D) → AreBooks bs → IsIn b bs → IsIn c bs → b.caller ≡ c.caller → b ≡ c
  one_book [] b c a i j q = absurd i
  one_book (d ∷ ds) b c a i j q = ⊎_elim
      (λ y. ⊎_elim (λ z. sym y ∙ z) (λ m. absurd (in_each (λ x. d.caller ≢ x.caller) c ds m a.2 (ap (λ (x : Book D). x.caller) y ∙ q))) j)
      (λ y. ⊎_elim (λ z. absurd (in_each (λ x. d.caller ≢ x.caller) b ds y a.2 (ap (λ (x : Book D). x.caller) z ∙ sym q))) (λ m. one_book ds b c a.3 y m q) j)
      i

  module _ (bs : List (Book D)) (a : AreBooks bs) (h : List (Entry D)) (is : IsHistoryOf bs h) where
    pub as_booked : (b : Book D) → IsIn b bs → by_caller b.caller h ≡ b.records
    as_booked b i = let k = book_of bs b a i in unique (by_caller b.caller h) b.records (order_by b.caller h is.order) k.1
        (λ x j. let r = from_by b.caller x h j in let o = is.only x r.0 in
        let c : x.caller ≡ o.0.caller = in_each (λ e. e.caller ≡ o.0.caller) x o.0.records o.2 (book_of bs o.0 a o.1).0 in
        subst (λ (z : Book D). IsIn x z.records) (one_book bs o.0 b a o.1 i (sym c ∙ r.1)) o.2)
        (λ x j. to_by b.caller x h (in_each (λ e. e.caller ≡ b.caller) x b.records j k.0) (is.all b x i j))

    pub nobody : (k : ℕ) → ((b : Book D) → IsIn b bs → b.caller ≢ k) → by_caller k h ≡ []
    nobody k n = nothing (by_caller k h) (λ x j. let r = from_by k x h j in let o = is.only x r.0 in
        n o.0 o.1 (sym (in_each (λ e. e.caller ≡ o.0.caller) x o.0.records o.2 (book_of bs o.0 a o.1).0) ∙ r.1))

    pub only_one : (g : List (Entry D)) → IsHistoryOf bs g → g ≡ h
    only_one g o = unique g h o.order is.order (λ x j. let b = o.only x j in is.all b.0 x b.1 b.2) (λ x j. let b = is.only x j in o.all b.0 x b.1 b.2)

-- ---- sums

module _ {D : Type 0} (f : Entry D → ℕ) where
  -- the sum over the records of the callers of these books
  abbrev sum_of : List (Book D) → List (Entry D) → ℕ
  sum_of [] h = 0
  sum_of (b ∷ bs) h = total f (by_caller b.caller h) + sum_of bs h

  sum_none : (bs : List (Book D)) → sum_of bs [] ≡ 0
  sum_none [] = refl
  sum_none (b ∷ bs) = let i = sum_none bs in omega arith

  sum_others : (e : Entry D) (es : List (Entry D)) (bs : List (Book D)) → Each (λ c. e.caller ≢ c.caller) bs → sum_of bs (e ∷ es) ≡ sum_of bs es
  sum_others e es [] n = refl
  sum_others e es (b ∷ bs) n = let a = ap (total f) (other b.caller e es n.0) in let i = sum_others e es bs n.1 in omega arith

  sum_more : (e : Entry D) (es : List (Entry D)) (bs : List (Book D)) (b : Book D) → AreBooks bs → IsIn b bs → e.caller ≡ b.caller → sum_of bs (e ∷ es) ≡ f e + sum_of bs es
  sum_more e es [] b a i q = absurd i
  sum_more e es (c ∷ cs) b a i q = ⊎_elim
      (λ y. let same : e.caller ≡ c.caller = q ∙ ap (λ (z : Book D). z.caller) (sym y) in
      let t = ap (total f) (own c.caller e es same) in
      let r = sum_others e es cs (subst (λ (z : ℕ). Each (λ (x : Book D). z ≢ x.caller) cs) (sym same) a.2) in omega arith)
      (λ j. let apart : e.caller ≢ c.caller = λ z. in_each (λ (x : Book D). c.caller ≢ x.caller) b cs j a.2 (sym z ∙ q) in
      let t = ap (total f) (other c.caller e es apart) in let r = sum_more e es cs b a.3 j q in omega arith)
      i

  sum_all : (bs : List (Book D)) → AreBooks bs → (h : List (Entry D)) → ((e : Entry D) → IsIn e h → (b : Book D) × IsIn b bs × (e.caller ≡ b.caller)) → total f h ≡ sum_of bs h
  sum_all bs a [] c = sym (sum_none bs)
  sum_all bs a (e ∷ es) c = let b = c e (inl refl) in let i = sum_all bs a es (λ x j. c x (inr j)) in let m = sum_more e es bs b.0 a b.1 b.2 in omega arith

  sum_books : (h : List (Entry D)) (bs : List (Book D)) → ((b : Book D) → IsIn b bs → by_caller b.caller h ≡ b.records) → sum_of bs h ≡ total_of_books f bs
  sum_books h [] e = refl
  sum_books h (b ∷ bs) e = let t = ap (total f) (e b (inl refl)) in let i = sum_books h bs (λ c j. e c (inr j)) in omega arith

  pub sums : (bs : List (Book D)) → AreBooks bs → (h : List (Entry D)) → IsHistoryOf bs h → total f h ≡ total_of_books f bs
  sums bs a h is = sum_all bs a h (λ e i. let o = is.only e i in (o.0, o.1, in_each (λ (x : Entry D). x.caller ≡ o.0.caller) e o.0.records o.2 (book_of bs o.0 a o.1).0))
      ∙ sum_books h bs (as_booked bs a h is)

pub books_sum : BooksSumToHistory
books_sum f bs a h is = sums f bs a h is

pub keeps_books : HistoryKeepsBooks
keeps_books bs a h is = (as_booked bs a h is, nobody bs a h is, only_one bs a h is)

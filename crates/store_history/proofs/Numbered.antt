-- Records with new indices, and with other calls.
use Rattle.std.proofs.Common.{◌≡◌, ◌≢◌, ℕ, ◌+◌, eqb, leb, List, [], ◌∷◌, ◌++◌, inl, inr, ⊎_elim, sym, refl, ap, ◌∙◌, subst, eq-eqb, ne_eqb}
use Rattle.std.proofs.lemmas.Bool.{cond-true, cond-false, cases_Bool}
use mathlib.Core.Logic.{dite}
use native.Mathlib.Decide.{ℕ_discrete}
use Rattle.serial_terms.specs.Counts.{with_at}
use Rattle.serial_terms.specs.Entries.{Entry, Each, IsIn, Precedes, IsInOrder, by_caller, numbered, up_to}
use Rattle.serial_terms.specs.Facts.{with_at_same, with_at_other}
use Rattle.serial_terms.specs.Renaming.{entry_with, entries_with}
use Rattle.serial_terms.specs.Runs.{LegalBy}

more_is : (n : ℕ → ℕ) (c k : ℕ) → c ≡ k → with_at n c (n c + 1) k ≡ n k + 1
more_is n c k q = with_at_same n c (n c + 1) k (sym q) ∙ ap (λ (z : ℕ). n z + 1) q

module _ {D : Type 0} where
  pub own : (k : ℕ) (e : Entry D) (es : List (Entry D)) → e.caller ≡ k → by_caller k (e ∷ es) ≡ e ∷ by_caller k es
  own k e es q = cond-true (eqb e.caller k) (e ∷ by_caller k es) (by_caller k es) (eq-eqb e.caller k q)

  pub other : (k : ℕ) (e : Entry D) (es : List (Entry D)) → e.caller ≢ k → by_caller k (e ∷ es) ≡ by_caller k es
  other k e es q = cond-false (eqb e.caller k) (e ∷ by_caller k es) (by_caller k es) (ne_eqb e.caller k q)

  pub by_append : (k : ℕ) (xs ys : List (Entry D)) → by_caller k (xs ++ ys) ≡ by_caller k xs ++ by_caller k ys
  by_append k [] ys = refl
  by_append k (x ∷ xs) ys = let i = by_append k xs ys in dite (ℕ_discrete x.caller k)
      (λ q. own k x (xs ++ ys) q ∙ (ap (λ (z : List (Entry D)). x ∷ z) i ∙ sym (ap (λ (z : List (Entry D)). z ++ by_caller k ys) (own k x xs q))))
      (λ q. other k x (xs ++ ys) q ∙ (i ∙ sym (ap (λ (z : List (Entry D)). z ++ by_caller k ys) (other k x xs q))))

  pub from_by : (k : ℕ) (x : Entry D) (es : List (Entry D)) → IsIn x (by_caller k es) → IsIn x es
  from_by k x [] i = absurd i
  from_by k x (e ∷ es) i = dite (ℕ_discrete e.caller k)
      (λ q. ⊎_elim (λ y. inl y) (λ j. inr (from_by k x es j)) (subst (IsIn x) (own k e es q) i))
      (λ q. inr (from_by k x es (subst (IsIn x) (other k e es q) i)))

  pub to_by : (k : ℕ) (x : Entry D) (es : List (Entry D)) → x.caller ≡ k → IsIn x es → IsIn x (by_caller k es)
  to_by k x [] c i = i
  to_by k x (e ∷ es) c i = ⊎_elim
      (λ y. subst (IsIn x) (sym (own k e es (ap (λ (z : Entry D). z.caller) y ∙ c))) (inl y))
      (λ j. dite (ℕ_discrete e.caller k) (λ q. subst (IsIn x) (sym (own k e es q)) (inr (to_by k x es c j))) (λ q. subst (IsIn x) (sym (other k e es q)) (to_by k x es c j)))
      i

  -- ---- new indices

  -- the same records with the indices n, n + 1 and so on
  abbrev pub recounted : ℕ → List (Entry D) → List (Entry D)
  recounted n [] = []
  recounted n (e ∷ es) = record e { index = n } ∷ recounted (n + 1) es

  pub numbered_by : (k : ℕ) (n : ℕ → ℕ) (es : List (Entry D)) → by_caller k (numbered n es) ≡ recounted (n k) (by_caller k es)
  numbered_by k n [] = refl
  numbered_by k n (e ∷ es) =
      let m : ℕ → ℕ = with_at n e.caller (n e.caller + 1) in let x : Entry D = record e { index = n e.caller } in let i = numbered_by k m es in dite (ℕ_discrete e.caller k)
      (λ q. own k x (numbered m es) q ∙ ((λ j. record e { index = n (q j) } ∷ (i ∙ ap (λ (z : ℕ). recounted z (by_caller k es)) (more_is n e.caller k q)) j) ∙ sym (ap (recounted (n k)) (own k e es q))))
      (λ q. other k x (numbered m es) q ∙ (i ∙ (ap (λ (z : ℕ). recounted z (by_caller k es)) (with_at_other n e.caller (n e.caller + 1) k (λ z. q (sym z))) ∙ sym (ap (recounted (n k)) (other k e es q)))))

  -- what looks at no index is true of the records with new indices
  pub numbered_each : (P : Entry D → Type 0) → ((e : Entry D) (i : ℕ) → P e → P (record e { index = i })) → (n : ℕ → ℕ) (es : List (Entry D)) → Each P es → Each P (numbered n es)
  numbered_each P f n [] a = tt
  numbered_each P f n (e ∷ es) a = (f e (n e.caller) a.0, numbered_each P f (with_at n e.caller (n e.caller + 1)) es a.1)

module _ {S D : Type 0} (IsReplied : S → D → Type 0) (step : S → D → S) (Good : S → Type 0) where
  abbrev L : S → List (Entry D) → S → Type 0
  L = LegalBy IsReplied step Good

  -- up to a place, records with new indices run as before
  pub numbered_runs : (t : ℕ) (n : ℕ → ℕ) (es : List (Entry D)) (s u : S) → L s (up_to t es) u → L s (up_to t (numbered n es)) u
  numbered_runs t n [] s u l = l
  numbered_runs t n (e ∷ es) s u l =
      let m : ℕ → ℕ = with_at n e.caller (n e.caller + 1) in let x : Entry D = record e { index = n e.caller } in ⊎_elim
      (λ q. let r = subst (λ (z : List (Entry D)). L s z u) (cond-true (leb e.place t) (e ∷ up_to t es) (up_to t es) q) l in
      subst (λ (z : List (Entry D)). L s z u) (sym (cond-true (leb e.place t) (x ∷ up_to t (numbered m es)) (up_to t (numbered m es)) q)) (r.0, r.1, r.2, r.3, numbered_runs t m es r.0 u r.4))
      (λ q. let r = subst (λ (z : List (Entry D)). L s z u) (cond-false (leb e.place t) (e ∷ up_to t es) (up_to t es) q) l in
      subst (λ (z : List (Entry D)). L s z u) (sym (cond-false (leb e.place t) (x ∷ up_to t (numbered m es)) (up_to t (numbered m es)) q)) (numbered_runs t m es s u r))
      (cases_Bool (leb e.place t))

-- ---- other calls

module _ {A B : Type 0} (f : List A → List B) where
  pub with_append : (xs ys : List (Entry A)) → entries_with f (xs ++ ys) ≡ entries_with f xs ++ entries_with f ys
  with_append [] ys = refl
  with_append (x ∷ xs) ys = ap (λ (z : List (Entry B)). entry_with f x ∷ z) (with_append xs ys)

  pub with_numbered : (n : ℕ → ℕ) (es : List (Entry A)) → entries_with f (numbered n es) ≡ numbered n (entries_with f es)
  with_numbered n [] = refl
  with_numbered n (e ∷ es) = ap (λ (z : List (Entry B)). record (entry_with f e) { index = n e.caller } ∷ z) (with_numbered (with_at n e.caller (n e.caller + 1)) es)

  -- the order looks at no call
  each_back : (e : Entry A) (es : List (Entry A)) → Each (Precedes (entry_with f e)) (entries_with f es) → Each (Precedes e) es
  each_back e [] a = tt
  each_back e (x ∷ xs) a = (a.0, each_back e xs a.1)

  pub order_back : (es : List (Entry A)) → IsInOrder (entries_with f es) → IsInOrder es
  order_back [] o = tt
  order_back (e ∷ es) o = (each_back e es o.0, order_back es o.1)

-- Sorted records of books are their history.
use Rattle.std.proofs.Common.{◌≡◌, ℕ, suc, ◌+◌, ◌<◌, ◌≤◌, Bool, true, false, List, [], ◌∷◌, ◌⊎◌, length, get_or, inl, inr, ⊎_elim, sym, ◌∙◌, subst, arith, is_lt, nat_cmp}
use Rattle.std.specs.Prelude.{not}
use Rattle.std.specs.Ordering.{ordering_then, bool_cmp}
use Rattle.std.proofs.lemmas.Bool.Decides.{nat_tests}
use Rattle.std.proofs.lemmas.Grind.{common_steps}
use Rattle.serial_terms.specs.Entries.{Each}
use Rattle.serial_terms.specs.declared.committed.Record.{Record}
use Rattle.store_history.specs.Records.{ComesNoLater, AreInOrder}

adjacent : (p q : ℕ) (v w : Bool) (c d i j : ℕ) → is_lt (ordering_then (ordering_then (ordering_then (nat_cmp q p) (bool_cmp (not w) (not v))) (nat_cmp d c)) (nat_cmp j i)) ≡ false
    → (p < q) ⊎ ((p ≡ q) × (((v ≡ true) × (w ≡ false)) ⊎ ((v ≡ w) × ((c < d) ⊎ ((c ≡ d) × (i ≤ j))))))
adjacent p q true true c d i j e = grind (arith, nat_tests, common_steps)
adjacent p q true false c d i j e = grind (arith, nat_tests, common_steps)
adjacent p q false true c d i j e = grind (arith, nat_tests, common_steps)
adjacent p q false false c d i j e = grind (arith, nat_tests, common_steps)

across : (a b c : Record) → ComesNoLater a b → ComesNoLater b c → ComesNoLater a c
across a b c f g = ⊎_elim
    (λ l. ⊎_elim (λ m. inl (omega arith)) (λ y. let e = y.0 in inl (omega arith)) g)
    (λ x. let e = x.0 in ⊎_elim (λ m. inl (omega arith)) (λ y. let d = y.0 in inr (
      omega arith,
      ⊎_elim
          (λ p. ⊎_elim (λ q. inl (p.0, q.1)) (λ q. inl (p.0, sym q.0 ∙ p.1)) y.1)
          (λ p. ⊎_elim (λ q. inl (p.0 ∙ q.0, q.1)) (λ q. inr (p.0 ∙ q.0, ⊎_elim (λ s. inl (⊎_elim (λ t. omega arith) (λ t. let u = t.0 in omega arith) q.1)) (λ s. let u = s.0 in let w = s.1 in ⊎_elim (λ t. inl (omega arith)) (λ t. let r = t.0 in let z = t.1 in inr (omega arith, omega arith)) q.1) p.1)) y.1)
          x.1,
    )) g)
    f

each_across : (a b : Record) (xs : List Record) → ComesNoLater a b → Each (ComesNoLater b) xs → Each (ComesNoLater a) xs
each_across a b [] f e = tt
each_across a b (x ∷ xs) f e = (across a b x f e.0, each_across a b xs f e.1)

ahead : (x : Record) (xs : List Record) → ((d : Record) → 0 < length xs → ComesNoLater x (get_or xs 0 d)) → AreInOrder xs → Each (ComesNoLater x) xs
ahead x [] f a = tt
ahead x (y ∷ ys) f a = let n : ComesNoLater x y = f y (omega arith) in (n, each_across x y ys n a.0)

in_order : (xs : List Record) → ((k : ℕ) (d : Record) → k + 1 < length xs → ComesNoLater (get_or xs k d) (get_or xs (k + 1) d)) → AreInOrder xs
in_order [] f = tt
in_order (x ∷ xs) f =
    let i = in_order xs (λ k d l. let e : k + 1 + 1 ≡ suc (k + 1) = omega arith in let s : k + 1 ≡ suc k = omega arith in let g : ComesNoLater (get_or (x ∷ xs) (k + 1) d) (get_or (x ∷ xs) (k + 1 + 1) d) = f (k + 1) d (omega arith) in
    subst (λ (z : ℕ). ComesNoLater (get_or (x ∷ xs) z d) (get_or (x ∷ xs) (suc (k + 1)) d)) s (subst (λ (z : ℕ). ComesNoLater (get_or (x ∷ xs) (k + 1) d) (get_or (x ∷ xs) z d)) e g)) in
    (ahead x xs (λ d l. let s : 0 + 1 ≡ suc 0 = omega arith in subst (λ (z : ℕ). ComesNoLater x (get_or (x ∷ xs) z d)) s (f 0 d (omega arith))) i, i)

pub from_sort : (xs : List Record) → ((k : ℕ) (d : Record) → 0 ≤ k → k + 1 < length xs → is_lt (ordering_then (ordering_then (ordering_then (nat_cmp (get_or xs (k + 1) d).place (get_or xs k d).place) (bool_cmp (not (get_or xs (k + 1) d).writer) (not (get_or xs k d).writer))) (nat_cmp (get_or xs (k + 1) d).caller (get_or xs k d).caller)) (nat_cmp (get_or xs (k + 1) d).index (get_or xs k d).index)) ≡ false) → AreInOrder xs
from_sort xs f = in_order xs (λ k d l. adjacent _ _ _ _ _ _ _ _ (f k d (omega arith) l))

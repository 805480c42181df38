-- Lists in ascending order.
use Rattle.std.proofs.Common.{◌≡◌, ◌≢◌, ℕ, zero, suc, ◌<◌, Bool, cond, ltb, List, [], ◌∷◌, ◌++◌, reverse, slice_get, Some, inl, inr, ⊎_elim, sym, subst, arith}
use Rattle.std.proofs.lemmas.Grind.{reverse_onto}
use Rattle.std.proofs.lemmas.Bool.Decides.{leb_tells}
use Rattle.cell_table.specs.Sorted.{Each, Among, insert_by, merge_by, IsAscendingBy}
use Rattle.cell_table.proofs.Histories.{bool_cases}

module _ {A : Type 0} where
  pub each_map : (P Q : A → Type 0) → ((x : A) → P x → Q x) → (xs : List A) → Each P xs → Each Q xs
  each_map P Q f [] e = tt
  each_map P Q f (x ∷ xs) e = (f x e.0, each_map P Q f xs e.1)

  pub each_both : (P Q R : A → Type 0) → ((x : A) → P x → Q x → R x) → (xs : List A) → Each P xs → Each Q xs → Each R xs
  each_both P Q R f [] e d = tt
  each_both P Q R f (x ∷ xs) e d = (f x e.0 d.0, each_both P Q R f xs e.1 d.1)

  pub each_append : (P : A → Type 0) (xs ys : List A) → Each P xs → Each P ys → Each P (xs ++ ys)
  each_append P [] ys e f = f
  each_append P (x ∷ xs) ys e f = (e.0, each_append P xs ys e.1 f)

  pub each_reverse : (P : A → Type 0) (xs : List A) → Each P xs → Each P (reverse xs)
  each_reverse P [] e = tt
  each_reverse P (x ∷ xs) e = subst (Each P) (sym (reverse_onto xs x [])) (each_append P (reverse xs) (x ∷ []) (each_reverse P xs e.1) (e.0, tt))

  pub each_at : (P : A → Type 0) (xs : List A) (k : ℕ) (x : A) → Each P xs → slice_get xs k ≡ Some x → P x
  each_at P [] k x e is = absurd (cc)
  each_at P (y ∷ ys) zero x e is = let same : y ≡ x = cc in subst P same e.0
  each_at P (y ∷ ys) (suc k) x e is = each_at P ys k x e.1 is

  pub each_among : (P : A → Type 0) (t : A) (ts : List A) → Among t ts → Each P ts → P t
  each_among P t [] h e = absurd h
  each_among P t (x ∷ xs) h e = ⊎_elim (λ is. subst P is e.0) (λ l. each_among P t xs l e.1) h

  pub among_left : (t : A) (xs ys : List A) → Among t xs → Among t (xs ++ ys)
  among_left t [] ys h = absurd h
  among_left t (x ∷ xs) ys h = ⊎_elim (λ is. inl is) (λ l. inr (among_left t xs ys l)) h

  pub among_right : (t : A) (xs ys : List A) → Among t ys → Among t (xs ++ ys)
  among_right t [] ys h = h
  among_right t (x ∷ xs) ys h = inr (among_right t xs ys h)

module _ {A : Type 0} (key : A → ℕ) where
  pub each_insert : (P : A → Type 0) (x : A) (ys : List A) → P x → Each P ys → Each P (insert_by key x ys)
  each_insert P x [] p e = (p, tt)
  each_insert P x (y ∷ ys) p e = let Q : Bool → Type 0 = λ z. Each P (cond z (x ∷ y ∷ ys) (y ∷ insert_by key x ys)) in
      ⊎_elim (λ t. subst Q (sym t) (p, e)) (λ f. subst Q (sym f) (e.0, each_insert P x ys p e.1)) (bool_cases (ltb (key x) (key y)))

  pub insert_ascends : (x : A) (ys : List A) → IsAscendingBy key ys → Each (λ y. key y ≢ key x) ys → IsAscendingBy key (insert_by key x ys)
  insert_ascends x [] o n = (tt, tt)
  insert_ascends x (y ∷ ys) o n = let P : Bool → Type 0 = λ z. IsAscendingBy key (cond z (x ∷ y ∷ ys) (y ∷ insert_by key x ys)) in ⊎_elim
      (λ t. subst P (sym t.0) (let l = t.1 in (omega arith, each_map _ _ (λ d m. omega arith) ys o.0), o))
      (λ f. subst P (sym f.0) (let l = f.1 in let ne = n.0 in let low : key y < key x = omega arith in (each_insert _ x ys low o.0, insert_ascends x ys o.1 n.1))) (leb_tells (suc (key x)) (key y))

  pub each_merge : (P : A → Type 0) (xs ys : List A) → Each P xs → Each P ys → Each P (merge_by key xs ys)
  each_merge P [] ys e f = f
  each_merge P (x ∷ xs) ys e f = each_insert P x (merge_by key xs ys) e.0 (each_merge P xs ys e.1 f)

  pub merge_ascends : (xs ys : List A) → IsAscendingBy key xs → IsAscendingBy key ys → Each (λ x. Each (λ y. key y ≢ key x) ys) xs → IsAscendingBy key (merge_by key xs ys)
  merge_ascends [] ys o p n = p
  merge_ascends (x ∷ xs) ys o p n = insert_ascends x (merge_by key xs ys) (merge_ascends xs ys o.1 p n.1) (each_merge _ xs ys (each_map _ _ (λ d l is. omega arith) xs o.0) n.0)

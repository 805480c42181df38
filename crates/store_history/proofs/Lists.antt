-- Facts of each element, by the words of tables and by those of histories.
use Rattle.std.proofs.Common.{◌≡◌, Bool, true, false, List, [], ◌∷◌, inl, inr, ⊎_elim, refl, sym, ◌∙◌, subst}
use Rattle.serial_terms.specs.Entries.{Each, IsIn}
use Rattle.cell_table.specs.Sorted.{Each as EachOf}

pub true_or_false : (b : Bool) → b ≡ true → b ≡ false → ⊥
true_or_false b e f = let z : true ≡ false = sym e ∙ f in absurd (cc)

module _ {A : Type 0} where
  pub each_map : (P Q : A → Type 0) → ((x : A) → P x → Q x) → (xs : List A) → Each P xs → Each Q xs
  each_map P Q f [] a = tt
  each_map P Q f (x ∷ xs) a = (f x a.0, each_map P Q f xs a.1)

  pub in_each : (P : A → Type 0) (x : A) (xs : List A) → IsIn x xs → Each P xs → P x
  in_each P x [] i a = absurd i
  in_each P x (y ∷ ys) i a = ⊎_elim (λ e. subst P e a.0) (λ j. in_each P x ys j a.1) i

  pub each_of_map : (P Q : A → Type 0) → ((x : A) → P x → Q x) → (xs : List A) → EachOf P xs → EachOf Q xs
  each_of_map P Q f [] a = tt
  each_of_map P Q f (x ∷ xs) a = (f x a.0, each_of_map P Q f xs a.1)

  pub each_of_both : (P Q R : A → Type 0) → ((x : A) → P x → Q x → R x) → (xs : List A) → EachOf P xs → EachOf Q xs → EachOf R xs
  each_of_both P Q R f [] a b = tt
  each_of_both P Q R f (x ∷ xs) a b = (f x a.0 b.0, each_of_both P Q R f xs a.1 b.1)

  pub each_of_all : (P : A → Type 0) (xs : List A) → ((x : A) → P x) → EachOf P xs
  each_of_all P [] f = tt
  each_of_all P (x ∷ xs) f = (f x, each_of_all P xs f)

  pub in_each_of : (P : A → Type 0) (x : A) (xs : List A) → IsIn x xs → EachOf P xs → P x
  in_each_of P x [] i a = absurd i
  in_each_of P x (y ∷ ys) i a = ⊎_elim (λ e. subst P e a.0) (λ j. in_each_of P x ys j a.1) i

  pub each_in : (P : A → Type 0) (xs : List A) → ((x : A) → IsIn x xs → P x) → Each P xs
  each_in P [] f = tt
  each_in P (x ∷ xs) f = (f x (inl refl), each_in P xs (λ y i. f y (inr i)))

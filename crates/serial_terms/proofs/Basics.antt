-- Functions changed at two places, and facts of each element.
use Rattle.std.proofs.Common.{◌≡◌, ◌≢◌, ℕ, Bool, true, false, List, [], ◌∷◌, inl, inr, ⊎_elim, sym, refl, ap, ◌∙◌, subst, arith}
use Rattle.std.proofs.lemmas.Bool.Decides.{nat_tests}
use mathlib.Core.Logic.{dite}
use mathlib.Core.Path.{fun_ext}
use native.Mathlib.Decide.{ℕ_discrete}
use Rattle.serial_terms.specs.Counts.{with_at}
use Rattle.serial_terms.specs.Entries.{Each, IsIn}
use Rattle.serial_terms.specs.Facts.{with_at_same, with_at_other}

pub true_or_false : (b : Bool) → b ≡ true → b ≡ false → ⊥
true_or_false b e f = let z : true ≡ false = sym e ∙ f in absurd (cc)

-- ---- functions changed at one place

pub with_at_swap : {A : Type 0} (f : ℕ → A) (n k : ℕ) (v w : A) → n ≢ k → with_at (with_at f n v) k w ≡ with_at (with_at f k w) n v
with_at_swap f n k v w h = fun_ext (swapped f n k v w h)
  where
    swapped : {A : Type 0} (f : ℕ → A) (n k : ℕ) (v w : A) → n ≢ k → (m : ℕ) → with_at (with_at f n v) k w m ≡ with_at (with_at f k w) n v m
    swapped f n k v w h m = grind (arith, nat_tests)

-- ---- each element

pub each_map : {A : Type 0} (P Q : A → Type 0) → ((x : A) → P x → Q x) → (xs : List A) → Each P xs → Each Q xs
each_map P Q f [] a = tt
each_map P Q f (x ∷ xs) a = (f x a.0, each_map P Q f xs a.1)

pub each_all : {A : Type 0} (P : A → Type 0) (xs : List A) → ((x : A) → P x) → Each P xs
each_all P [] f = tt
each_all P (x ∷ xs) f = (f x, each_all P xs f)

pub in_each : {A : Type 0} (P : A → Type 0) (x : A) (xs : List A) → IsIn x xs → Each P xs → P x
in_each P x [] i a = absurd i
in_each P x (y ∷ ys) i a = ⊎_elim (λ e. subst P e a.0) (λ j. in_each P x ys j a.1) i

pub each_in : {A : Type 0} (P : A → Type 0) (xs : List A) → ((x : A) → IsIn x xs → P x) → Each P xs
each_in P [] f = tt
each_in P (x ∷ xs) f = (f x (inl refl), each_in P xs (λ y i. f y (inr i)))

-- what is true of the old value at n and of the new one is true after
pub with_at_kept : {A : Type 0} (g : A → ℕ) (f : ℕ → A) (n : ℕ) (v : A) (m : ℕ) → g v ≡ g (f n) → g (with_at f n v m) ≡ g (f m)
with_at_kept g f n v m e = dite (ℕ_discrete m n) (λ y. ap g (with_at_same f n v m y) ∙ (e ∙ ap (λ (z : ℕ). g (f z)) (sym y))) (λ y. ap g (with_at_other f n v m y))

-- Facts of functions changed at one place and of lists, whatever type their values have, for the proofs of this crate and of those above.
use Rattle.std.proofs.Common.{◌≡◌, ◌≢◌, ℕ, ◌+◌, cond, eqb, List, [], ◌∷◌, ◌++◌, sym, ap, ◌∙◌, eq-eqb, ne_eqb}
use Rattle.std.proofs.Math.Nat.{add_assoc, zero-add}
use Rattle.std.proofs.lemmas.Bool.{cond-true, cond-false}
use mathlib.Core.Logic.{dite}
use mathlib.Core.Path.{fun_ext}
use native.Mathlib.Decide.{ℕ_discrete}
use Rattle.serial_terms.specs.Counts.{times, with_at}
use Rattle.serial_terms.specs.Entries.{Each}

pub with_at_same : {A : Type 0} (f : ℕ → A) (n : ℕ) (v : A) (m : ℕ) → m ≡ n → with_at f n v m ≡ v
with_at_same f n v m e = cond-true (eqb m n) v (f m) (eq-eqb m n e)

pub with_at_other : {A : Type 0} (f : ℕ → A) (n : ℕ) (v : A) (m : ℕ) → m ≢ n → with_at f n v m ≡ f m
with_at_other f n v m h = cond-false (eqb m n) v (f m) (ne_eqb m n h)

pub with_at_own : {A : Type 0} (f : ℕ → A) (n : ℕ) → with_at f n (f n) ≡ f
with_at_own f n = fun_ext (λ m. dite (ℕ_discrete m n) (λ e. with_at_same f n (f n) m e ∙ ap f (sym e)) (λ h. with_at_other f n (f n) m h))

pub with_at_twice : {A : Type 0} (f : ℕ → A) (n : ℕ) (v w : A) → with_at (with_at f n v) n w ≡ with_at f n w
with_at_twice f n v w = fun_ext (λ m. dite (ℕ_discrete m n)
    (λ e. with_at_same (with_at f n v) n w m e ∙ sym (with_at_same f n w m e))
    (λ h. with_at_other (with_at f n v) n w m h ∙ (with_at_other f n v m h ∙ sym (with_at_other f n w m h))))

pub each_append : {A : Type 0} (P : A → Type 0) (xs ys : List A) → Each P xs → Each P ys → Each P (xs ++ ys)
each_append P [] ys a b = b
each_append P (x ∷ xs) ys a b = (a.0, each_append P xs ys a.1 b)

pub times_append : (x : ℕ) (xs ys : List ℕ) → times x (xs ++ ys) ≡ times x xs + times x ys
times_append x [] ys = sym (zero-add (times x ys))
times_append x (y ∷ xs) ys = ap (λ (z : ℕ). cond (eqb x y) 1 0 + z) (times_append x xs ys) ∙ sym (add_assoc (cond (eqb x y) 1 0) (times x xs) (times x ys))

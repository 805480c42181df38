-- Sums over numbers, and how often a number stands in a list.
use Rattle.std.proofs.Common.{◌≡◌, ◌≢◌, ℕ, zero, suc, ◌+◌, ◌<◌, ◌≤◌, cond, eqb, List, [], ◌∷◌, ◌++◌, ◌⊎◌, length, length-append, inl, inr, ⊎_elim, sym, refl, ap, ◌∙◌, subst, arith, eq-eqb, ne_eqb}
use mathlib.Core.Logic.{dite}
use native.Mathlib.Decide.{ℕ_discrete}
use Rattle.serial_terms.specs.Counts.{numbers_from, times, with_at}
use Rattle.run_stages.specs.Work.{total_below, task_item, group_item}
use Rattle.std.proofs.lemmas.Bool.{cond-true, cond-false}
use Rattle.serial_terms.specs.Facts.{with_at_same, with_at_other, times_append}

-- ---- numbers

pub zero_or : (x : ℕ) → (0 < x → ⊥) → x ≡ 0
zero_or x n = grind arith

pub below_or : (i n : ℕ) → (i < n) ⊎ (n ≤ i)
below_or i n = grind arith

-- ---- sums

pub total_same : (f g : ℕ → ℕ) (n : ℕ) → ((i : ℕ) → i < n → f i ≡ g i) → total_below f n ≡ total_below g n
total_same f g zero e = refl
total_same f g (suc n) e = let a = total_same f g n (λ i l. e i (omega arith)) in let b = e n (omega arith) in omega arith

pub total_le : (f g : ℕ → ℕ) (n : ℕ) → ((i : ℕ) → i < n → f i ≤ g i) → total_below f n ≤ total_below g n
total_le f g zero e = omega arith
total_le f g (suc n) e = let a = total_le f g n (λ i l. e i (omega arith)) in let b = e n (omega arith) in omega arith

-- where the sums are as great, so is each part
pub parts_same : (f g : ℕ → ℕ) (n : ℕ) → ((i : ℕ) → i < n → f i ≤ g i) → total_below g n ≤ total_below f n → (i : ℕ) → i < n → f i ≡ g i
parts_same f g zero e h i l = absurd (omega arith)
parts_same f g (suc n) e h i l = let a = total_le f g n (λ j m. e j (omega arith)) in let b = e n (omega arith) in
    dite (ℕ_discrete i n) (λ y. subst (λ (z : ℕ). f z ≡ g z) (sym y) (omega arith)) (λ y. parts_same f g n (λ j m. e j (omega arith)) (omega arith) i (omega arith))

pub total_above : (f : ℕ → ℕ) (i v n : ℕ) → n ≤ i → total_below (with_at f i v) n ≡ total_below f n
total_above f i v n l = total_same (with_at f i v) f n (λ j m. with_at_other f i v j (λ e. omega arith))

pub total_at : (f : ℕ → ℕ) (i v n : ℕ) → i < n → total_below (with_at f i v) n + f i ≡ total_below f n + v
total_at f i v zero l = absurd (omega arith)
total_at f i v (suc n) l = dite (ℕ_discrete i n)
    (λ y. let a = total_above f i v n (omega arith) in let b = with_at_same f i v n (sym y) in let c : f i ≡ f n = ap f y in omega arith)
    (λ y. let a = total_at f i v n (omega arith) in let b = with_at_other f i v n (λ e. y (sym e)) in omega arith)

pub total_zero : (f : ℕ → ℕ) (n : ℕ) → total_below f n ≡ 0 → (i : ℕ) → i < n → f i ≡ 0
total_zero f zero e i l = absurd (omega arith)
total_zero f (suc n) e i l = dite (ℕ_discrete i n) (λ y. subst (λ (z : ℕ). f z ≡ 0) (sym y) (omega arith)) (λ y. total_zero f n (omega arith) i (omega arith))

-- ---- lists

pub times_cons_same : (x y : ℕ) (ys : List ℕ) → x ≡ y → times x (y ∷ ys) ≡ 1 + times x ys
times_cons_same x y ys e = ap (λ (z : ℕ). z + times x ys) (cond-true (eqb x y) 1 0 (eq-eqb x y e))

pub times_cons_other : (x y : ℕ) (ys : List ℕ) → x ≢ y → times x (y ∷ ys) ≡ times x ys
times_cons_other x y ys e = let a : times x (y ∷ ys) ≡ 0 + times x ys = ap (λ (z : ℕ). z + times x ys) (cond-false (eqb x y) 1 0 (ne_eqb x y e)) in omega arith

pub times_cons_more : (x y : ℕ) (ys : List ℕ) → times x ys ≤ times x (y ∷ ys)
times_cons_more x y ys = dite (ℕ_discrete x y) (λ e. let a = times_cons_same x y ys e in omega arith) (λ e. let a = times_cons_other x y ys e in omega arith)

pub times_push_same : (x y : ℕ) (xs : List ℕ) → x ≡ y → times x (xs ++ y ∷ []) ≡ times x xs + 1
times_push_same x y xs e = let a = times_append x xs (y ∷ []) in let b = times_cons_same x y [] e in omega arith

pub times_push_other : (x y : ℕ) (xs : List ℕ) → x ≢ y → times x (xs ++ y ∷ []) ≡ times x xs
times_push_other x y xs e = let a = times_append x xs (y ∷ []) in let b = times_cons_other x y [] e in omega arith

pub push_length : (xs : List ℕ) (y : ℕ) → length (xs ++ y ∷ []) ≡ length xs + 1
push_length xs y = omega (arith, length-append xs (y ∷ []))

pub numbers_length : (a k : ℕ) → length (numbers_from a k) ≡ k
numbers_length a zero = refl
numbers_length a (suc k) = let i = numbers_length (a + 1) k in omega arith

pub times_no_numbers : (i a k : ℕ) → (i < a) ⊎ (a + k ≤ i) → times i (numbers_from a k) ≡ 0
times_no_numbers i a zero h = refl
times_no_numbers i a (suc k) h = let ne : i ≢ a = λ e. ⊎_elim (λ l. omega arith) (λ l. omega arith) h in let r = times_cons_other i a (numbers_from (a + 1) k) ne in
    r ∙ times_no_numbers i (a + 1) k (⊎_elim (λ l. inl (omega arith)) (λ l. inr (omega arith)) h)

pub times_numbers : (i a k : ℕ) → a ≤ i → i < a + k → times i (numbers_from a k) ≡ 1
times_numbers i a zero l m = absurd (omega arith)
times_numbers i a (suc k) l m = dite (ℕ_discrete i a)
    (λ e. let r = times_cons_same i a (numbers_from (a + 1) k) e in let q = times_no_numbers i (a + 1) k (inl (omega arith)) in omega arith)
    (λ ne. times_cons_other i a (numbers_from (a + 1) k) ne ∙ times_numbers i (a + 1) k (omega arith) (omega arith))

-- every number in the list counted once for each time that it stands there
pub total_add : (f g : ℕ → ℕ) (n : ℕ) → total_below (λ i. f i + g i) n ≡ total_below f n + total_below g n
total_add f g zero = refl
total_add f g (suc n) = let a = total_add f g n in omega arith

one_above : (x n : ℕ) → n ≤ x → total_below (λ i. cond (eqb i x) 1 0) n ≡ 0
one_above x zero l = refl
one_above x (suc n) l = let a = one_above x n (omega arith) in let b = cond-false {A = ℕ} (eqb n x) 1 0 (ne_eqb n x (λ e. omega arith)) in omega arith

one_at : (x n : ℕ) → x < n → total_below (λ i. cond (eqb i x) 1 0) n ≡ 1
one_at x zero l = absurd (omega arith)
one_at x (suc n) l = dite (ℕ_discrete n x)
    (λ e. let a = one_above x n (omega arith) in let b = cond-true {A = ℕ} (eqb n x) 1 0 (eq-eqb n x e) in omega arith)
    (λ e. let a = one_at x n (omega arith) in let b = cond-false {A = ℕ} (eqb n x) 1 0 (ne_eqb n x e) in omega arith)

pub total_times : (xs : List ℕ) (n : ℕ) → ((i : ℕ) → 0 < times i xs → i < n) → total_below (λ i. times i xs) n ≡ length xs
total_times [] n b = no_times n
  where
    no_times : (n : ℕ) → total_below (λ i. 0) n ≡ 0
    no_times zero = refl
    no_times (suc n) = let a = no_times n in omega arith
total_times (x ∷ xs) n b = let a = total_add (λ i. cond (eqb i x) 1 0) (λ i. times i xs) n in let o = one_at x n (b x (let a = times_cons_same x x xs refl in omega arith)) in
    let r = total_times xs n (λ i l. b i (omega arith)) in omega arith

pub numbers_below : (i a k : ℕ) → 0 < times i (numbers_from a k) → i < a + k
numbers_below i a k l = ⊎_elim (λ m. m) (λ m. let x = times_no_numbers i a k (inr m) in absurd (omega arith)) (below_or i (a + k))

-- ---- items

pub task_items : (i j : ℕ) → task_item i ≡ task_item j → i ≡ j
task_items i j e = omega arith

pub group_items : (h k : ℕ) → group_item h ≡ group_item k → h ≡ k
group_items h k e = omega arith

pub task_no_group : (i h : ℕ) → task_item i ≢ group_item h
task_no_group i h e = omega arith

-- The lengths of ranges that share no place, counted place by place.
use Rattle.std.proofs.Common.{◌≡◌, ◌⊎◌, ℕ, zero, suc, ◌+◌, ◌-◌, ◌<◌, ◌≤◌, Bool, true, false, List, [], ◌∷◌, refl, sym, ◌∙◌, ap, inl, inr, arith}
use Rattle.std.specs.Prelude.{All, AllPairs, cond, sum_by, count_by, min, ◌↔◌}
use Rattle.std.proofs.lemmas.Bool.Decides.{nat_tests}
use Rattle.std.proofs.lemmas.List.Sums.{sum_by-cons}
use Rattle.capture_terms.specs.declared.plan.Task.{Task}
use Rattle.capture_terms.specs.Datagram.{ArePacked, AreApart, holds}

-- the sum of f over the places below n
abbrev sum_below : (ℕ → ℕ) → ℕ → ℕ
sum_below f zero = 0
sum_below f (suc n) = sum_below f n + f n

sum_below_add : (f g : ℕ → ℕ) (n : ℕ) → sum_below (λ p. f p + g p) n ≡ sum_below f n + sum_below g n
sum_below_add f g zero = refl
sum_below_add f g (suc n) = omega (arith, sum_below_add f g n)

sum_below_same : (f g : ℕ → ℕ) → ((p : ℕ) → f p ≡ g p) → (n : ℕ) → sum_below f n ≡ sum_below g n
sum_below_same f g same zero = refl
sum_below_same f g same (suc n) = omega (arith, sum_below_same f g same n, same n)

sum_below_none : (n : ℕ) → sum_below (λ p. 0) n ≡ 0
sum_below_none zero = refl
sum_below_none (suc n) = omega (arith, sum_below_none n)

-- 1 where the task holds the place
abbrev mark : Task → ℕ → ℕ
mark t place = cond (holds place t) 1 0

mark_at : (t : Task) (n : ℕ) → min n (t.start + t.length) - min n t.start + mark t n ≡ min (n + 1) (t.start + t.length) - min (n + 1) t.start
mark_at t n = grind (arith, nat_tests)

marks : (t : Task) (n : ℕ) → sum_below (mark t) n ≡ min n (t.start + t.length) - min n t.start
marks t zero = omega arith
marks t (suc n) = omega (arith, marks t n, mark_at t n)

marks_of : (t : Task) (end : ℕ) → t.start + t.length ≤ end → sum_below (mark t) end ≡ t.length
marks_of t end within = omega (arith, marks t end)

All-rest : {X : Type 0} (P : X → Type 0) (x : X) (xs : List X) → All P (x ∷ xs) → All P xs
All-rest P x xs all = λ k d lt. all (suc k) d (omega arith)

All-first : {X : Type 0} (P : X → Type 0) (x : X) (xs : List X) → All P (x ∷ xs) → P x
All-first P x xs all = all 0 x (omega arith)

AllPairs-rest : {X : Type 0} (R : X → X → Type 0) (x : X) (xs : List X) → AllPairs R (x ∷ xs) → AllPairs R xs
AllPairs-rest R x xs pairs = λ i j d before within. pairs (suc i) (suc j) d (omega arith) (omega arith)

AllPairs-first : {X : Type 0} (R : X → X → Type 0) (x : X) (xs : List X) → AllPairs R (x ∷ xs) → All (R x) xs
AllPairs-first R x xs pairs = λ k d lt. pairs 0 (suc k) d (omega arith) (omega arith)

-- one task more
count_more : (t : Task) (tasks : List Task) (place : ℕ) → count_by (holds place) (t ∷ tasks) ≡ mark t place + count_by (holds place) tasks
count_more t tasks place = sum_by-cons (λ (s : Task). cond (holds place s) 1 0) t tasks

-- counted place by place, or length by length
counted : (tasks : List Task) (end : ℕ) → All (λ (t : Task). t.start + t.length ≤ end) tasks → sum_below (λ p. count_by (holds p) tasks) end ≡ sum_by (λ (t : Task). t.length) tasks
counted [] end within = sum_below_none end
counted (t ∷ tasks) end within =
    let here : sum_below (mark t) end ≡ t.length = marks_of t end (All-first (λ (t : Task). t.start + t.length ≤ end) t tasks within) in
    let there : sum_below (λ p. count_by (holds p) tasks) end ≡ sum_by (λ (t : Task). t.length) tasks = counted tasks end (All-rest (λ (t : Task). t.start + t.length ≤ end) t tasks within) in
    let all : sum_by (λ (t : Task). t.length) (t ∷ tasks) ≡ t.length + sum_by (λ (t : Task). t.length) tasks = sum_by-cons (λ (t : Task). t.length) t tasks in
    let split : sum_below (λ p. count_by (holds p) (t ∷ tasks)) end ≡ sum_below (λ p. mark t p + count_by (holds p) tasks) end = sum_below_same (λ p. count_by (holds p) (t ∷ tasks)) (λ p. mark t p + count_by (holds p) tasks) (count_more t tasks) end in
    let added : sum_below (λ p. mark t p + count_by (holds p) tasks) end ≡ sum_below (mark t) end + sum_below (λ p. count_by (holds p) tasks) end = sum_below_add (mark t) (λ p. count_by (holds p) tasks) end in
    omega arith

-- where one task holds a place, those apart from it don't
none_else : (t : Task) (place : ℕ) (tasks : List Task) → holds place t ≡ true → All (AreApart t) tasks → count_by (holds place) tasks ≡ 0
none_else t place [] here apart = refl
none_else t place (s ∷ tasks) here apart =
    let away : holds place s ≡ false = away_from t s place here (All-first (AreApart t) s tasks apart) in
    let rest : count_by (holds place) tasks ≡ 0 = none_else t place tasks here (All-rest (AreApart t) s tasks apart) in
    let none : mark s place ≡ 0 = rw away in
    let more : count_by (holds place) (s ∷ tasks) ≡ mark s place + count_by (holds place) tasks = count_more s tasks place in
    omega arith
  where
    away_from : (t s : Task) (place : ℕ) → holds place t ≡ true → AreApart t s → holds place s ≡ false
    away_from t s place here apart = grind (arith, nat_tests)

at_most_one : (tasks : List Task) (place : ℕ) → AllPairs AreApart tasks → count_by (holds place) tasks ≤ 1
at_most_one [] place apart = omega arith
at_most_one (t ∷ tasks) place apart = by_case (at_most_one tasks place (AllPairs-rest AreApart t tasks apart)) (holds place t) refl
  where
    by_case : count_by (holds place) tasks ≤ 1 → (b : Bool) → holds place t ≡ b → count_by (holds place) (t ∷ tasks) ≤ 1
    by_case rest true here =
        let more : count_by (holds place) (t ∷ tasks) ≡ mark t place + count_by (holds place) tasks = count_more t tasks place in
        let one : mark t place ≡ 1 = rw here in
        omega (arith, none_else t place tasks here (AllPairs-first AreApart t tasks apart))
    by_case rest false away =
        let more : count_by (holds place) (t ∷ tasks) ≡ mark t place + count_by (holds place) tasks = count_more t tasks place in
        let none : mark t place ≡ 0 = rw away in
        omega arith

sum_below_most : (f : ℕ → ℕ) → ((p : ℕ) → f p ≤ 1) → (n : ℕ) → sum_below f n ≤ n
sum_below_most f one zero = omega arith
sum_below_most f one (suc n) = omega (arith, sum_below_most f one n, one n)

sum_below_full : (f : ℕ → ℕ) → ((p : ℕ) → f p ≤ 1) → (n : ℕ) → sum_below f n ≡ n → (p : ℕ) → p < n → f p ≡ 1
sum_below_full f one zero full p before = absurd (omega arith)
sum_below_full f one (suc n) full p before =
    let most : sum_below f n ≤ n = sum_below_most f one n in
    let here : f n ≤ 1 = one n in
    elim (split p n before) [
      | inl earlier ↦ sum_below_full f one n (omega arith) p earlier
      | inr same ↦ let top : f n ≡ 1 = omega arith in ap f same ∙ top
    ]
  where
    split : (p n : ℕ) → p < suc n → (p < n) ⊎ (p ≡ n)
    split p n before = grind arith

sum_below_ones : (f : ℕ → ℕ) (n : ℕ) → ((p : ℕ) → p < n → f p ≡ 1) → sum_below f n ≡ n
sum_below_ones f zero ones = refl
sum_below_ones f (suc n) ones = omega (arith, sum_below_ones f n (λ p before. ones p (omega arith)), ones n (omega arith))

pub packed_most : (end : ℕ) (tasks : List Task) → ArePacked end tasks → sum_by (λ (t : Task). t.length) tasks ≤ end
packed_most end tasks packed =
    let most : sum_below (λ p. count_by (holds p) tasks) end ≤ end = sum_below_most (λ p. count_by (holds p) tasks) (λ p. at_most_one tasks p packed.apart) end in
    omega (arith, counted tasks end packed.within)

pub packed_exact : (end : ℕ) (tasks : List Task) → ArePacked end tasks → (sum_by (λ (t : Task). t.length) tasks ≡ end) ↔ ((place : ℕ) → place < end → count_by (holds place) tasks ≡ 1)
packed_exact end tasks packed =
    let same : sum_below (λ p. count_by (holds p) tasks) end ≡ sum_by (λ (t : Task). t.length) tasks = counted tasks end packed.within in (
      (λ full. sum_below_full (λ p. count_by (holds p) tasks) (λ p. at_most_one tasks p packed.apart) end (same ∙ full)),
      (λ ones. sym same ∙ sum_below_ones (λ p. count_by (holds p) tasks) end ones),
    )

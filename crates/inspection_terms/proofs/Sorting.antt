-- Numbers that ascend stand one way only.
use Rattle.std.proofs.Common.{◌≡◌, ◌≢◌, ℕ, zero, suc, ◌<◌, ◌≤◌, Bool, List, [], ◌∷◌, refl, sym, ◌∙◌, ap, arith, get_or, eq-eqb, ne_eqb}
use Rattle.std.specs.Prelude.{All, AllPairs, IsPermutation, ◌==◌, sum_by, if◌then◌else◌}
use Rattle.std.specs.List.Sorted.{IsNonDecreasing}
use Rattle.std.proofs.lemmas.List.Sorted.{sum_by-IsPermutation}
use Rattle.std.proofs.lemmas.List.Sums.{sum_by-cons}

-- 1 for the number z, and 0 for any other
abbrev mark : ℕ → ℕ → ℕ
mark z x = if x == z then 1 else 0

mark_same : (z x : ℕ) → x ≡ z → mark z x ≡ 1
mark_same z x e = ap (λ (b : Bool). if b then 1 else 0) (eq-eqb x z e)

mark_other : (z x : ℕ) → x ≢ z → mark z x ≡ 0
mark_other z x n = ap (λ (b : Bool). if b then 1 else 0) (ne_eqb x z n)

-- how often the number z stands in the list
abbrev count : ℕ → List ℕ → ℕ
count z xs = sum_by (mark z) xs

none_below : (z : ℕ) (xs : List ℕ) → All (λ x. z < x) xs → count z xs ≡ 0
none_below z [] above = refl
none_below z (x ∷ xs) above =
    let a : z < x = above 0 x (omega arith) in
    let c = sum_by-cons (mark z) x xs in
    let m = mark_other z x (λ e. omega arith) in
    let r = none_below z xs (λ k d l. above (suc k) d (omega arith)) in
    omega arith

pub one_order : (xs ys : List ℕ) → AllPairs (λ x later. x < later) xs → AllPairs (λ y later. y ≤ later) ys → ((z : ℕ) → count z xs ≡ count z ys) → ys ≡ xs
one_order [] [] up rises same = refl
one_order [] (y ∷ ys) up rises same = let s = same y in let c = sum_by-cons (mark y) y ys in let m = mark_same y y refl in absurd (omega arith)
one_order (x ∷ xs) [] up rises same = let s = same x in let c = sum_by-cons (mark x) x xs in let m = mark_same x x refl in absurd (omega arith)
one_order (x ∷ xs) (y ∷ ys) up rises same = ap (λ (z : ℕ). z ∷ ys) (sym first) ∙ ap (λ (l : List ℕ). x ∷ l)
    (one_order xs ys (λ i j d less lt. up (suc i) (suc j) d (omega arith) (omega arith)) (λ i j d less lt. rises (suc i) (suc j) d (omega arith) (omega arith)) same_rest)
  where
    not_less : x < y → ⊥
    not_less l =
        let s = same x in
        let c = sum_by-cons (mark x) x xs in
        let m = mark_same x x refl in
        let none = none_below x (y ∷ ys) (above l) in
        omega arith
      where
        above : x < y → All (λ u. x < u) (y ∷ ys)
        above l zero d lt = l
        above l (suc k) d lt = let r : y ≤ get_or ys k d = rises 0 (suc k) d (omega arith) (omega arith) in omega arith

    not_more : y < x → ⊥
    not_more l =
        let s = same y in
        let c = sum_by-cons (mark y) y ys in
        let m = mark_same y y refl in
        let none = none_below y (x ∷ xs) (above l) in
        omega arith
      where
        above : y < x → All (λ u. y < u) (x ∷ xs)
        above l zero d lt = l
        above l (suc k) d lt = let r : x < get_or xs k d = up 0 (suc k) d (omega arith) (omega arith) in omega arith

    first : x ≡ y
    first = grind (arith, not_less, not_more)

    same_rest : (z : ℕ) → count z xs ≡ count z ys
    same_rest z = let s = same z in let c = sum_by-cons (mark z) x xs in let e = sum_by-cons (mark z) y ys in let m : mark z x ≡ mark z y = ap (mark z) first in omega arith

pub sorted_one : (xs sorted : List ℕ) → AllPairs (λ x later. x < later) xs → IsPermutation xs sorted → IsNonDecreasing sorted → sorted ≡ xs
sorted_one xs sorted up shuffled rises = one_order xs sorted up (λ i j d less lt. rises i j d (omega arith) lt) (λ z. sym (sum_by-IsPermutation (mark z) xs sorted shuffled))

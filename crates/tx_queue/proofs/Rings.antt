-- The places of a ring, and the two halves of the word of an end.
use Rattle.std.proofs.Common.{◌≡◌, ◌≢◌, ℕ, zero, suc, ◌+◌, ◌*◌, ◌/◌, ◌%◌, ◌^◌, ◌<◌, List, [], ◌∷◌, ◌++◌, inl, inr, length, drop, get_or, refl, sym, ap, ◌∙◌, arith}
use Rattle.std.specs.List.{slice_get}
use Rattle.std.proofs.lemmas.Nat.{div-add-mod', div-mul-add, mod-mul-add, mul-le, row_fits, div_below}
use Rattle.std.proofs.lemmas.Bool.{cases_lt}
use Rattle.store_layout.specs.States.{head_in, length_in, round_from}

pub halves : (head long : ℕ) → long < 2 ^ 32 → (head_in (head * 2 ^ 32 + long) ≡ head) × (length_in (head * 2 ^ 32 + long) ≡ long)
halves head long lt = (div-mul-add head (2 ^ 32) long lt, mod-mul-add head (2 ^ 32) long lt)

-- with k items more the head stays
pub halves_more : (word k : ℕ) → length_in word + k < 2 ^ 32 → (head_in (word + k) ≡ head_in word) × (length_in (word + k) ≡ length_in word + k)
halves_more word k lt =
    let e : head_in word * 2 ^ 32 + (length_in word + k) ≡ word + k = omega (arith, div-add-mod' word (2 ^ 32)) in
    let h = halves (head_in word) (length_in word + k) lt in
    (ap head_in (sym e) ∙ h.0, ap length_in (sym e) ∙ h.1)

pub word_fits : (word n : ℕ) → word < 2 ^ 64 → length_in word + n < 2 ^ 32 → word + n < 2 ^ 64
word_fits word n lt few = omega (arith, div_below word (2 ^ 32) (2 ^ 32) (omega arith) (omega (arith, lt)), div-add-mod' word (2 ^ 32), few)

pub length-round : (ws : List ℕ) (at n : ℕ) → length (round_from ws at n) ≡ n
length-round ws at zero = refl
length-round ws at (suc n) = ap suc (length-round ws (at + 1) n)

pub round_is : (ws : List ℕ) (at n k d : ℕ) → k < n → get_or (round_from ws at n) k d ≡ get_or ws ((at + k) % length ws) 0
round_is ws at zero k d lt = absurd (omega arith)
round_is ws at (suc n) zero d lt = let e : at ≡ at + 0 = omega arith in ap (λ a. get_or ws (a % length ws) 0) e
round_is ws at (suc n) (suc k) d lt = let e : at + 1 + k ≡ at + suc k = omega arith in round_is ws (at + 1) n k d (omega arith) ∙ ap (λ a. get_or ws (a % length ws) 0) e

-- places that are less than the round apart are two
pub ring_apart : (c h i j : ℕ) → i < j → j < i + c → (h + i) % c ≢ (h + j) % c
ring_apart c h i j lt near same = elim (cases_lt ((h + i) / c) ((h + j) / c)) [
  | inl low ↦ omega (arith, row_fits ((h + i) / c) c ((h + j) / c) c low (omega arith), same, div-add-mod' (h + i) c, div-add-mod' (h + j) c, near)
  | inr high ↦ omega (arith, mul-le ((h + j) / c) c ((h + i) / c) c high (omega arith), same, div-add-mod' (h + i) c, div-add-mod' (h + j) c, lt)
]

-- the first of two lists that isn't empty
pub first_of_both : (xs ys : List ℕ) → 0 < length xs → (slice_get (xs ++ ys) 0 ≡ slice_get xs 0) × (drop 1 (xs ++ ys) ≡ drop 1 xs ++ ys)
first_of_both [] ys some = absurd (omega arith)
first_of_both (x ∷ xs) ys some = (refl, refl)

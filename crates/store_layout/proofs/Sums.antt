-- Parts with sizes f of the elements of a list, which stand one behind the other.
use Rattle.std.proofs.Common.{◌≡◌, ℕ, zero, suc, ◌+◌, ◌-◌, ◌<◌, ◌≤◌, List, [], ◌∷◌, length, take, get_or, inl, inr, arith}
use Rattle.std.specs.List.{sum_by}
use Rattle.std.proofs.lemmas.Bool.{cases_lt, cases_order}
use Rattle.std.proofs.lemmas.List.Sums.{sum_by-cons, sum_by_more, sum_by_more_le}

-- what stands before the i-th part is at most what stands before a later one
pub sums_grow : (f : ℕ → ℕ) (xs : List ℕ) (i j : ℕ) → i ≤ j → sum_by f (take i xs) ≤ sum_by f (take j xs)
sums_grow f xs zero j le = omega arith
sums_grow f [] (suc i) j le = omega arith
sums_grow f (x ∷ xs) (suc i) zero le = absurd (omega arith)
sums_grow f (x ∷ xs) (suc i) (suc j) le = omega (arith, sum_by-cons f x (take i xs), sum_by-cons f x (take j xs), sums_grow f xs i j (omega arith))

-- The cell is one of the i-th part's, where the first part begins at a cell
pub record IsIn (f : ℕ → ℕ) (from : ℕ) (xs : List ℕ) (i c : ℕ) : Type 0 where
  pub there : i < length xs
  pub low : from + sum_by f (take i xs) ≤ c
  pub high : c < from + sum_by f (take i xs) + f (get_or xs i 0)
  pub above : from ≤ c
  pub below : c < from + sum_by f xs

pub is_in : (f : ℕ → ℕ) (from : ℕ) (xs : List ℕ) (i c : ℕ) → i < length xs → from + sum_by f (take i xs) ≤ c → c < from + sum_by f (take i xs) + f (get_or xs i 0) → IsIn f from xs i c
is_in f from xs i c there low high = record { there = there; low = low; high = high; above = omega arith; below = omega (arith, sum_by_more_le f xs i 0 there) }

-- a part ends where the next one begins
ends_before : (f : ℕ → ℕ) (xs : List ℕ) (i j : ℕ) → i < length xs → i < j → sum_by f (take i xs) + f (get_or xs i 0) ≤ sum_by f (take j xs)
ends_before f xs i j there lt = omega (arith, sum_by_more f xs i 0 there, sums_grow f xs (i + 1) j (omega arith))

-- no cell is in two of them
pub in_one : (f : ℕ → ℕ) (from : ℕ) (xs : List ℕ) (i j c : ℕ) → IsIn f from xs i c → IsIn f from xs j c → i ≡ j
in_one f from xs i j c a b = elim (cases_order i j) [
  | inl e ↦ e
  | inr apart ↦ elim apart [
    | inl lt ↦ absurd (omega (arith, ends_before f xs i j a.there lt))
    | inr gt ↦ absurd (omega (arith, ends_before f xs j i b.there gt))
  ]
]

-- the part that a cell is in, counted from the first part's first cell
found : (f : ℕ → ℕ) (xs : List ℕ) (c : ℕ) → c < sum_by f xs → (i : ℕ) × (i < length xs) × (sum_by f (take i xs) ≤ c) × (c < sum_by f (take i xs) + f (get_or xs i 0))
found f [] c h = absurd (omega arith)
found f (x ∷ xs) c h = elim (cases_lt c (f x)) [
  | inl lt ↦ (0, omega arith, omega arith, omega arith)
  | inr ge ↦
      let rest = found f xs (c - f x) (omega (arith, sum_by-cons f x xs)) in
      let more = sum_by-cons f x (take rest.0 xs) in
      (suc rest.0, omega (arith, rest.1), omega (arith, rest.2), omega (arith, rest.3))
]

-- each cell up to the end of the last part is in some part
pub some_part : (f : ℕ → ℕ) (from : ℕ) (xs : List ℕ) (c : ℕ) → from ≤ c → c < from + sum_by f xs → (i : ℕ) × IsIn f from xs i c
some_part f from xs c low high =
    let at = found f xs (c - from) (omega arith) in
    (at.0, is_in f from xs at.0 c at.1 (omega (arith, at.2)) (omega (arith, at.3)))

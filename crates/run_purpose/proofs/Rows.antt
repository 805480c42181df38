-- Numbers in a row, and the cells of a run's store.
use Rattle.std.proofs.Common.{◌≡◌, ℕ, zero, suc, ◌+◌, ◌-◌, ◌^◌, ◌<◌, ◌≤◌, [], ◌∷◌, ◌++◌, List, length, refl, ap, ◌∙◌, arith}
use Rattle.std.specs.Prelude.{All, max}
use Rattle.std.proofs.lemmas.Bool.Decides.{nat_tests}
use Rattle.std.proofs.lemmas.List.Elements.{All-cons}
use Rattle.serial_terms.specs.Counts.{numbers_from}
use Rattle.serial_terms.specs.RunLayout.{room_for, given_of, layout_by}
use Rattle.store_layout.specs.Shapes.{IsLayout, IsPool, shape_of, cells_of, most_cells}
use Rattle.run_purpose.specs.Lawful.{Fits}

one_more : (a k : ℕ) → numbers_from a k ++ (a + k) ∷ [] ≡ numbers_from a (suc k)
one_more a zero = let e : a + 0 ≡ a = omega arith in ap (λ (n : ℕ). n ∷ []) e
one_more a (suc k) =
    let e : a + suc k ≡ a + 1 + k = omega arith in
    ap (λ (z : ℕ). a ∷ (numbers_from (a + 1) k ++ z ∷ [])) e ∙ ap (λ (xs : List ℕ). a ∷ xs) (one_more (a + 1) k)

pub next_row : (xs ys : List ℕ) (k v : ℕ) → xs ≡ numbers_from 0 k → v ≡ k → ys ≡ xs ++ v ∷ [] → ys ≡ numbers_from 0 (k + 1)
next_row xs ys k v a b c =
    let e : v ≡ 0 + k = omega arith in
    let next : suc k ≡ k + 1 = omega arith in
    c ∙ (ap (λ (l : List ℕ). l ++ v ∷ []) a ∙ (ap (λ (n : ℕ). numbers_from 0 k ++ n ∷ []) e ∙ (one_more 0 k ∙ ap (numbers_from 0) next)))

row_length : (a k : ℕ) → length (numbers_from a k) ≡ k
row_length a zero = refl
row_length a (suc k) = omega (arith, row_length (a + 1) k)

all_none : (P : ℕ → Type 0) → All P []
all_none P = λ k d lt. absurd (omega arith)

row_below : (m a k : ℕ) → a + k ≤ m → All (λ n. n < m) (numbers_from a k)
row_below m a zero h = all_none (λ n. n < m)
row_below m a (suc k) h = All-cons (λ n. n < m) a (numbers_from (a + 1) k) (omega arith) (row_below m (a + 1) k (omega arith))

max_some : (n : ℕ) → 0 < max n 1
max_some n = grind (arith, nat_tests)

max_most : (n m : ℕ) → n ≤ m → 1 ≤ m → max n 1 ≤ m
max_most n m h o = grind (arith, nat_tests)

room_some : (n : ℕ) → 0 < room_for n
room_some n = let m = max_some n in grind (arith, nat_tests)

room_most : (n : ℕ) → room_for n ≤ 4096
room_most n = grind (arith, nat_tests)

given_fits : (n : ℕ) → given_of n 0 ≤ room_for n
given_fits n = grind (arith, nat_tests)

is_layout : (n g f : ℕ) → 0 < f → IsLayout (layout_by n g f)
unfolding layout_by
is_layout n g f some = record {
  maps = All-cons (λ c. 0 < c) (max g 1) (max n 1 ∷ []) (max_some g) (All-cons (λ c. 0 < c) (max n 1) [] (max_some n) (all_none (λ c. 0 < c)));
  queues = All-cons (λ c. 0 < c) (room_for n) [] (room_some n) (all_none (λ c. 0 < c));
  pools = All-cons IsPool (record { slots = room_for n; items = numbers_from 0 (given_of n 0) }) [] (
    room_some n,
    (let l = row_length 0 (given_of n 0) in let h = given_fits n in omega arith),
    row_below (2 ^ 64 - 1) 0 (given_of n 0) (let h = given_fits n in let m = room_most n in omega arith),
  ) (λ k d lt. absurd (omega arith));
  logs = All-cons (λ c. 0 < c) f [] some (all_none (λ c. 0 < c));
}

few_cells : (n g f : ℕ) → n ≤ 262144 → g ≤ 262144 → f ≤ 1048576 → (0 < cells_of (shape_of (layout_by n g f))) × (cells_of (shape_of (layout_by n g f)) ≤ most_cells)
unfolding layout_by
few_cells n g f tasks groups findings =
    let a = max_most g 262144 groups (omega arith) in
    let b = max_most n 262144 tasks (omega arith) in
    let r = room_most n in
    (omega arith, omega arith)

pub layout_fits : (n g f : ℕ) → n ≤ 262144 → g ≤ 262144 → 0 < f → f ≤ 1048576 → Fits (layout_by n g f)
layout_fits n g f tasks groups some findings =
    let cells = few_cells n g f tasks groups findings in
    record { fine = is_layout n g f some; some = cells.0; few = cells.1 }

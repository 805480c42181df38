-- Transfers between the first two cells of a table whose cells keep their sum.
use Rattle.std.proofs.Common.{◌≡◌, ℕ, ◌+◌, List, [], ◌∷◌, sum, sym, subst, arith}
use Rattle.std.proofs.lemmas.List.Sums.{sum_by-cons}
use Rattle.cell_table.specs.Cells.{after, AllHold}

abbrev pub IsTransfer : List (ℕ × ℕ) → List (ℕ × ℕ) → Type 0
IsTransfer os ws = (x : ℕ) × (y : ℕ) × (a : ℕ) × (b : ℕ) × (os ≡ (0, x) ∷ (1, y) ∷ []) × (ws ≡ (0, a) ∷ (1, b) ∷ []) × (a + b ≡ x + y)

-- a transfer keeps the sum of the cells
pub keeps_sum : (total : ℕ) (cells : List ℕ) (os ws : List (ℕ × ℕ)) → sum cells ≡ total → AllHold cells os → IsTransfer os ws → sum (after cells ws) ≡ total
keeps_sum total cells os ws f h (x, y, a, b, is, to, same) = subst (λ (z : List (ℕ × ℕ)). sum (after cells z) ≡ total) (sym to) (between cells f (subst (AllHold cells) is h))
  where
    between : (cells : List ℕ) → sum cells ≡ total → AllHold cells ((0, x) ∷ (1, y) ∷ []) → sum (after cells ((0, a) ∷ (1, b) ∷ [])) ≡ total
    between [] f h = let l = h.0.0 in absurd (omega arith)
    between (c ∷ []) f h = let l = h.1.0.0 in absurd (omega arith)
    between (c ∷ d ∷ cs) f h =
        let i : c ≡ x = h.0.1 in let j : d ≡ y = h.1.0.1 in let old = sum_by-cons (λ z. z) c (d ∷ cs) in let older = sum_by-cons (λ z. z) d cs in let new = sum_by-cons (λ z. z) a (b ∷ cs) in let newer = sum_by-cons (λ z. z) b cs in omega arith

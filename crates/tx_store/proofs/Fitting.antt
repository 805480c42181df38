-- Cells that are written are no more than those that are held.
use Rattle.std.proofs.Common.{◌≡◌, ◌≢◌, ℕ, zero, suc, ◌+◌, ◌<◌, ◌≤◌, true, cond, eqb, List, [], ◌∷◌, length, refl, subst, arith}
use Rattle.std.proofs.lemmas.Bool.Decides.{nat_tests}
use Rattle.std.specs.Prelude.{IsSome}
use Rattle.cell_table.specs.Cells.{has}
use Rattle.cell_table.specs.Rule.{cells_of}
use Rattle.cell_table.specs.Sorted.{Each}
use Rattle.attempt_lists.specs.Cells.{Entries, word_at, word_of, cell_at, IsAscending}

-- the list without its first c
abbrev drop_one : ℕ → List ℕ → List ℕ
drop_one c [] = []
drop_one c (d ∷ ds) = cond (eqb d c) ds (d ∷ drop_one c ds)

one_less : (c : ℕ) (ds : List ℕ) → has c ds ≡ true → length ds ≡ length (drop_one c ds) + 1
one_less c [] is = absurd (cc)
one_less c (d ∷ ds) is = grind (arith, nat_tests, is, one_less c ds)

others_stay : (c e : ℕ) (ds : List ℕ) → e ≢ c → has e ds ≡ true → has e (drop_one c ds) ≡ true
others_stay c e [] apart is = absurd (cc)
others_stay c e (d ∷ ds) apart is = grind (arith, nat_tests, is, apart, others_stay c e ds apart)

ascending_tail : (e : ℕ × ℕ) (es : Entries) → IsAscending (e ∷ es) → IsAscending es
ascending_tail e es ascending i j lt in_range = ascending (suc i) (suc j) (omega arith) (omega arith)

no_more : (ws : Entries) (cs : List ℕ) → IsAscending ws → ((j : ℕ) → j < length ws → has (cell_at ws j) cs ≡ true) → length ws ≤ length cs
no_more [] cs ascending all = omega arith
no_more (w ∷ ws) cs ascending all =
    let first : has w.0 cs ≡ true = all 0 (omega arith) in
    let rest = no_more ws (drop_one w.0 cs) (ascending_tail w ws ascending)
    (λ j lt. let above : w.0 < cell_at ws j = ascending 0 (suc j) (omega arith) (omega arith) in
    others_stay w.0 (cell_at ws j) cs (λ same. omega (arith, same, above)) (all (suc j) (omega arith))) in
    omega (arith, one_less w.0 cs first, rest)

-- each cell of the list has a word in it
pub has_word : (ws : Entries) (j : ℕ) → j < length ws → IsSome (word_at ws (cell_at ws j))
has_word [] j lt = absurd (omega arith)
has_word (w ∷ ws) zero lt = grind (arith, nat_tests)
has_word (w ∷ ws) (suc j) lt = grind (arith, nat_tests, has_word ws j (omega arith))

length_cells : (hs : List (ℕ × ℕ)) → length (cells_of hs) ≡ length hs
length_cells [] = refl
length_cells (h ∷ hs) = omega (arith, length_cells hs)

pub writes_fit : (ws : Entries) (hs : List (ℕ × ℕ)) → IsAscending ws → ((c : ℕ) → IsSome (word_at ws c) → has c (cells_of hs) ≡ true) → length ws ≤ length hs
writes_fit ws hs ascending held = omega (arith, no_more ws (cells_of hs) ascending (λ j lt. held (cell_at ws j) (has_word ws j lt)), length_cells hs)

-- where there is one, a cell is held
pub some_held : (ws : Entries) (hs : List (ℕ × ℕ)) → 0 < length ws → ((c : ℕ) → IsSome (word_at ws c) → has c (cells_of hs) ≡ true) → hs ≢ []
some_held [] hs some held none = absurd (omega arith)
some_held (w ∷ ws) hs some held none =
    let here = held (cell_at (w ∷ ws) 0) (has_word (w ∷ ws) 0 (omega arith)) in
    absurd (nothing_held (cell_at (w ∷ ws) 0) (subst (λ (h : List (ℕ × ℕ)). has (cell_at (w ∷ ws) 0) (cells_of h) ≡ true) none here))
  where
    nothing_held : (c : ℕ) → has c (cells_of []) ≡ true → ⊥
    nothing_held c is = cc

-- what is true of each entry by its index is true of each
pub each_by_index : (P : ℕ → ℕ → Type 0) (os : Entries) → ((i : ℕ) → i < length os → P (cell_at os i) (word_of os i)) → Each (λ o. P o.0 o.1) os
each_by_index P [] all = tt
each_by_index P (o ∷ os) all = (all 0 (omega arith), each_by_index P os (λ i lt. all (suc i) (omega arith)))

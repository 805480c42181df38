-- The opening of a pool, and writes to other cells.
use Rattle.std.proofs.Common.{◌≡◌, ℕ, zero, suc, ◌+◌, ◌-◌, ◌^◌, ◌<◌, ◌≤◌, List, [], ◌∷◌, ◌++◌, length, map, replicate, set, get_or, All, refl, sym, ap, ◌∙◌, subst, arith}
use Rattle.std.proofs.lemmas.Grind.{same_number_lists}
use Rattle.std.proofs.lemmas.List.Elements.{All-append, All-replicate}
use Rattle.attempt_lists.specs.Cells.{Entries}
use Rattle.cell_table.specs.Sorted.{Each}
use Rattle.cell_table.specs.Cells.{after}
use Rattle.serial_terms.specs.Serial.{pool_of}
use Rattle.tx_core.specs.Words.{length_after}
use Rattle.tx_pool.specs.declared.part.PoolPart.{PoolPart}
use Rattle.tx_pool.specs.Pool.{items_in, words_in, pool_in, IsFormed, IsSlot}
use Rattle.tx_pool.proofs.Slots.{words_outside, words_length, words_at}

items_empty : (n : ℕ) → items_in (replicate n 0) ≡ []
items_empty zero = refl
items_empty (suc n) = items_empty n

items_first : (items : List ℕ) (n : ℕ) → items_in (map suc items ++ replicate n 0) ≡ items
items_first [] n = items_empty n
items_first (x ∷ items) n = ap (λ (xs : List ℕ). x ∷ xs) (items_first items n)

words_fit : (items : List ℕ) → All (λ x. x < 2 ^ 64 - 1) items → All (λ w. w < 2 ^ 64) (map suc items)
words_fit [] all k d lt = absurd (omega arith)
words_fit (x ∷ items) all zero d lt = let here : x < 2 ^ 64 - 1 = all zero 0 (omega arith) in omega arith
words_fit (x ∷ items) all (suc k) d lt = words_fit items (λ k d lt. all (suc k) d (omega arith)) k d (omega arith)

pub opens : (part : PoolPart) (cells items : List ℕ) (n : ℕ) → part.base + part.slots ≤ length cells → All (λ x. x < 2 ^ 64 - 1) items → words_in part cells ≡ map suc items ++ replicate n 0
    → IsFormed part cells × (pool_in part cells ≡ pool_of part.slots items)
opens part cells items n long all is = (
  (long, subst (λ (ws : List ℕ). All (λ w. w < 2 ^ 64) ws) (sym is) (All-append (λ (w : ℕ). w < 2 ^ 64) (map suc items) (replicate n 0) (words_fit items all) (All-replicate (λ (w : ℕ). w < 2 ^ 64) n 0 (omega arith)))),
  ap (λ (ws : List ℕ). pool_of part.slots (items_in ws)) is ∙ ap (pool_of part.slots) (items_first items n),
)

words_same : (part : PoolPart) (cells others : List ℕ) → part.base + part.slots ≤ length cells → length others ≡ length cells → ((c : ℕ) → IsSlot part c → get_or others c 0 ≡ get_or cells c 0) → words_in part others ≡ words_in part cells
words_same part cells others le sized same =
    let long : length (words_in part others) ≡ part.slots = words_length part others (omega (arith, le, sized)) in
    same_number_lists (words_in part others) (words_in part cells) (long ∙ sym (words_length part cells le))
    (λ i lt. let within : i < part.slots = omega (arith, lt, long) in words_at part others i within ∙ same (part.base + i) (omega arith, omega (arith, within)) ∙ sym (words_at part cells i within))

-- cells that are the same in the slots stand for the same pool
pub same_cells : (part : PoolPart) (cells others : List ℕ) → length others ≡ length cells → ((c : ℕ) → IsSlot part c → get_or others c 0 ≡ get_or cells c 0) → IsFormed part cells → IsFormed part others × (pool_in part others ≡ pool_in part cells)
same_cells part cells others sized same formed =
    let words = words_same part cells others formed.0 sized same in (
      (omega (arith, sized, formed.0), subst (λ (xs : List ℕ). All (λ w. w < 2 ^ 64) xs) (sym words) formed.1),
      ap (λ (xs : List ℕ). pool_of part.slots (items_in xs)) words,
    )

words_apart : (part : PoolPart) (cells : List ℕ) (ws : Entries) → Each (λ w. IsSlot part w.0 → ⊥) ws → words_in part (after cells ws) ≡ words_in part cells
words_apart part cells [] apart = refl
words_apart part cells (w ∷ ws) apart = words_apart part (set cells w.0 w.1) ws apart.1 ∙ words_outside part cells w.0 w.1 apart.0

pub pool_apart : (part : PoolPart) (cells : List ℕ) (ws : Entries) → Each (λ w. IsSlot part w.0 → ⊥) ws → pool_in part (after cells ws) ≡ pool_in part cells
pool_apart part cells ws apart = ap (λ (xs : List ℕ). pool_of part.slots (items_in xs)) (words_apart part cells ws apart)

pub formed_apart : (part : PoolPart) (cells : List ℕ) (ws : Entries) → Each (λ w. IsSlot part w.0 → ⊥) ws → IsFormed part cells → IsFormed part (after cells ws)
formed_apart part cells ws apart formed =
    (omega (arith, length_after ws cells, formed.0), subst (λ (xs : List ℕ). All (λ w. w < 2 ^ 64) xs) (sym (words_apart part cells ws apart)) formed.1)

-- The items of a list of slots, and one slot that is filled or emptied.
use Rattle.std.proofs.Common.{◌≡◌, ℕ, zero, suc, ◌<◌, ◌≤◌, List, [], ◌∷◌, ◌++◌, length, get_or, set, refl, sym, ap, ◌∙◌, arith}
use Rattle.std.proofs.lemmas.List.{set-get_or}
use Rattle.serial_terms.specs.Laws.{PoolsAreCounts}
use Rattle.serial_terms.specs.Serial.{pool_of, less, more}
use Rattle.tx_pool.specs.Pool.{items_in}

-- a slot with an item, and the same slot empty
pub items_split : (ws : List ℕ) (i x : ℕ) → i < length ws → (before : List ℕ) × (behind : List ℕ) × (items_in (set ws i (suc x)) ≡ before ++ x ∷ behind) × (items_in (set ws i 0) ≡ before ++ behind)
items_split [] i x lt = absurd (omega arith)
items_split (w ∷ ws) zero x lt = ([], items_in ws, refl, refl)
items_split (zero ∷ ws) (suc i) x lt = items_split ws i x (omega arith)
items_split (suc y ∷ ws) (suc i) x lt =
    let rest = items_split ws i x (omega arith) in
    (y ∷ rest.0, rest.1, ap (λ (zs : List ℕ). y ∷ zs) rest.2, ap (λ (zs : List ℕ). y ∷ zs) rest.3)

-- the slot's item is taken out
pub pool_less : (ws : List ℕ) (n i x : ℕ) → PoolsAreCounts → i < length ws → get_or ws i 0 ≡ suc x → pool_of n (items_in (set ws i 0)) ≡ less (pool_of n (items_in ws)) x
pool_less ws n i x law lt is =
    let split = items_split ws i x lt in
    let same : set ws i (suc x) ≡ ws = ap (set ws i) (sym is) ∙ set-get_or ws i 0 in
    let full : items_in ws ≡ split.0 ++ x ∷ split.1 = ap items_in (sym same) ∙ split.2 in
    ap (pool_of n) split.3 ∙ sym (law n x split.0 split.1).0 ∙ ap (λ (zs : List ℕ). less (pool_of n zs) x) (sym full)

-- an item is put into the slot
pub pool_more : (ws : List ℕ) (n i x : ℕ) → PoolsAreCounts → i < length ws → get_or ws i 0 ≡ 0 → pool_of n (items_in (set ws i (suc x))) ≡ more (pool_of n (items_in ws)) x
pool_more ws n i x law lt is =
    let split = items_split ws i x lt in
    let same : set ws i 0 ≡ ws = ap (set ws i) (sym is) ∙ set-get_or ws i 0 in
    let less_one : items_in ws ≡ split.0 ++ split.1 = ap items_in (sym same) ∙ split.3 in
    ap (pool_of n) split.2 ∙ sym (law n x split.0 split.1).1 ∙ ap (λ (zs : List ℕ). more (pool_of n zs) x) (sym less_one)

pub items_few : (ws : List ℕ) → length (items_in ws) ≤ length ws
items_few [] = omega arith
items_few (zero ∷ ws) = omega (arith, items_few ws)
items_few (suc x ∷ ws) = omega (arith, items_few ws)

-- an empty slot leaves room
pub items_fewer : (ws : List ℕ) (i : ℕ) → i < length ws → get_or ws i 0 ≡ 0 → length (items_in ws) < length ws
items_fewer [] i lt is = absurd (omega arith)
items_fewer (zero ∷ ws) zero lt is = omega (arith, items_few ws)
items_fewer (suc x ∷ ws) zero lt is = absurd (omega arith)
items_fewer (zero ∷ ws) (suc i) lt is = omega (arith, items_few ws)
items_fewer (suc x ∷ ws) (suc i) lt is = omega (arith, items_fewer ws i (omega arith) is)

-- each slot is empty
pub items_none : (ws : List ℕ) → ((i : ℕ) → i < length ws → get_or ws i 0 ≡ 0) → items_in ws ≡ []
items_none [] none = refl
items_none (zero ∷ ws) none = items_none ws (λ i lt. none (suc i) (omega arith))
items_none (suc x ∷ ws) none = let here : suc x ≡ 0 = none 0 (omega arith) in absurd (omega arith)

-- each slot has an item
pub items_all : (ws : List ℕ) → ((i : ℕ) → i < length ws → 0 < get_or ws i 0) → length (items_in ws) ≡ length ws
items_all [] all = refl
items_all (zero ∷ ws) all = let here : 0 < 0 = all 0 (omega arith) in absurd (omega arith)
items_all (suc x ∷ ws) all = ap suc (items_all ws (λ i lt. all (suc i) (omega arith)))

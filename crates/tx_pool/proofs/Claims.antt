-- What one write to a slot makes of the pool.
use Rattle.std.proofs.Common.{◌≡◌, ℕ, zero, suc, ◌+◌, ◌-◌, ◌^◌, ◌<◌, List, [], ◌∷◌, length, get_or, set, Option, Some, None, MatchOption, IfSome, is_some, true, false, refl, sym, ap, ◌∙◌, subst, arith, length-set}
use Rattle.std.proofs.lemmas.Bool.Decides.{nat_tests}
use Rattle.std.proofs.lemmas.List.Elements.{All-set}
use Rattle.serial_terms.specs.Counts.{times}
use Rattle.serial_terms.specs.Laws.{PoolsAreCounts}
use Rattle.serial_terms.specs.Serial.{pool_of}
use Rattle.tx_pool.specs.declared.part.PoolPart.{PoolPart}
use Rattle.tx_pool.specs.declared.wanted.Wanted.TheVariants.{Item, Room}
use Rattle.tx_pool.specs.Walk.{Replaces, HasNone}
use Rattle.tx_pool.specs.Pool.{items_in, words_in, pool_in, IsFormed, TakesFrom, PutsInto}
use Rattle.tx_pool.proofs.Items.{pool_less, pool_more, items_fewer, items_none, items_all}
use Rattle.tx_pool.proofs.Slots.{words_length, words_at, words_set}

counted : (ws : List ℕ) (i x : ℕ) → i < length ws → get_or ws i 0 ≡ suc x → 0 < times x (items_in ws)
counted [] i x lt is = absurd (omega arith)
counted (zero ∷ ws) zero x lt is = absurd (omega arith)
counted (suc y ∷ ws) zero x lt is = grind (arith, nat_tests)
counted (zero ∷ ws) (suc i) x lt is = counted ws i x (omega arith) is
counted (suc y ∷ ws) (suc i) x lt is = omega (arith, counted ws i x (omega arith) is)

-- a word of 64 bits in a slot leaves a pool
pub formed_set : (part : PoolPart) (cells : List ℕ) (i w : ℕ) → i < part.slots → w < 2 ^ 64 → IsFormed part cells → IsFormed part (set cells (part.base + i) w)
formed_set part cells i w lt fits formed =
    (omega (arith, length-set cells (part.base + i) w, formed.0), rw (words_set part cells i w lt) (All-set (λ v. v < 2 ^ 64) (words_in part cells) i w fits formed.1))

pub take_item : (part : PoolPart) (cells : List ℕ) (i x : ℕ) → PoolsAreCounts → i < part.slots → IsFormed part cells → get_or cells (part.base + i) 0 ≡ suc x → TakesFrom (pool_in part cells) (pool_in part (set cells (part.base + i) 0)) (Some x)
take_item part cells i x law lt formed is =
    let here : get_or (words_in part cells) i 0 ≡ suc x = words_at part cells i lt ∙ is in
    let in_words : i < length (words_in part cells) = omega (arith, words_length part cells formed.0) in (
      counted (words_in part cells) i x in_words here,
      ap (λ (ws : List ℕ). pool_of part.slots (items_in ws)) (words_set part cells i 0 lt) ∙ pool_less (words_in part cells) part.slots i x law in_words here,
    )

pub take_none : (part : PoolPart) (cells : List ℕ) → IsFormed part cells → ((i : ℕ) → i < part.slots → get_or cells (part.base + i) 0 ≡ 0) → TakesFrom (pool_in part cells) (pool_in part cells) None
take_none part cells formed none =
    (ap (λ (xs : List ℕ). length xs) (items_none (words_in part cells) (λ i lt. let in_part : i < part.slots = omega (arith, words_length part cells formed.0) in words_at part cells i in_part ∙ none i in_part)), refl)

pub put_item : (part : PoolPart) (cells : List ℕ) (i x : ℕ) → PoolsAreCounts → i < part.slots → IsFormed part cells → get_or cells (part.base + i) 0 ≡ 0 → PutsInto x (pool_in part cells) (pool_in part (set cells (part.base + i) (suc x))) true
put_item part cells i x law lt formed is =
    let here : get_or (words_in part cells) i 0 ≡ 0 = words_at part cells i lt ∙ is in
    let long = words_length part cells formed.0 in
    let in_words : i < length (words_in part cells) = omega (arith, long) in (
      omega (arith, long, items_fewer (words_in part cells) i in_words here),
      ap (λ (ws : List ℕ). pool_of part.slots (items_in ws)) (words_set part cells i (suc x) lt) ∙ pool_more (words_in part cells) part.slots i x law in_words here,
    )

pub put_none : (part : PoolPart) (cells : List ℕ) (x : ℕ) → IsFormed part cells → ((i : ℕ) → i < part.slots → 0 < get_or cells (part.base + i) 0) → PutsInto x (pool_in part cells) (pool_in part cells) false
put_none part cells x formed full =
    let long = words_length part cells formed.0 in
    (items_all (words_in part cells) (λ i lt. let in_part : i < part.slots = omega (arith, long) in rw (words_at part cells i in_part) (full i in_part)) ∙ long, refl)

-- what a take makes of the pool, by the slot that it emptied, if any
pub takes_pool : (part : PoolPart) (cells then : List ℕ) (old item : Option ℕ) → PoolsAreCounts → IsFormed part cells
    → MatchOption old (HasNone part Item cells then) (λ w. (i : ℕ) × (i < part.slots) × Replaces (part.base + i) w 0 cells then)
    → IfSome old (λ w. 0 < w) → MatchOption old (item ≡ None) (λ w. item ≡ Some (w - 1))
    → IsFormed part then × TakesFrom (pool_in part cells) (pool_in part then) item
takes_pool part cells then None item law formed has fit is =
    subst (λ (cs : List ℕ). IsFormed part cs × TakesFrom (pool_in part cells) (pool_in part cs) item) (sym has.1)
    (formed, subst (λ o. TakesFrom (pool_in part cells) (pool_in part cells) o) (sym is) (take_none part cells formed has.0))
takes_pool part cells then (Some zero) item law formed has fit is = absurd (omega arith)
takes_pool part cells then (Some (suc x)) item law formed (i, lt, (here, writes)) fit is =
    let less_one : suc x - 1 ≡ x = omega arith in
    subst (λ (cs : List ℕ). IsFormed part cs × TakesFrom (pool_in part cells) (pool_in part cs) item) (sym writes) (
      formed_set part cells i 0 lt (omega arith) formed,
      subst (λ o. TakesFrom (pool_in part cells) (pool_in part (set cells (part.base + i) 0)) o) (sym (is ∙ ap Some less_one)) (take_item part cells i x law lt formed here),
    )

-- what a put makes of it, by the slot that it filled, if any
pub puts_pool : (part : PoolPart) (cells then : List ℕ) (value : ℕ) (old : Option ℕ) → PoolsAreCounts → value < 2 ^ 64 - 1 → IsFormed part cells
    → MatchOption old (HasNone part Room cells then) (λ w. (i : ℕ) × (i < part.slots) × Replaces (part.base + i) w (value + 1) cells then)
    → IfSome old (λ w. w ≡ 0)
    → IsFormed part then × PutsInto value (pool_in part cells) (pool_in part then) (is_some old)
puts_pool part cells then value None law small formed has fit =
    subst (λ (cs : List ℕ). IsFormed part cs × PutsInto value (pool_in part cells) (pool_in part cs) false) (sym has.1) (formed, put_none part cells value formed has.0)
puts_pool part cells then value (Some w) law small formed (i, lt, (here, writes)) fit =
    let one_more : suc value ≡ value + 1 = omega arith in
    subst (λ (cs : List ℕ). IsFormed part cs × PutsInto value (pool_in part cells) (pool_in part cs) true) (sym writes) (
      formed_set part cells i (value + 1) lt (omega (arith, small)) formed,
      subst (λ z. PutsInto value (pool_in part cells) (pool_in part (set cells (part.base + i) z)) true) one_more (put_item part cells i value law lt formed (here ∙ fit)),
    )

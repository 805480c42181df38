-- The walk once round the slots.
use Rattle.std.proofs.Common.{◌≡◌, ℕ, ◌+◌, ◌-◌, ◌*◌, ◌/◌, ◌%◌, ◌<◌, ◌≤◌, inl, inr, sym, ap, subst, ◌∙◌, arith}
use Rattle.std.proofs.Math.Nat.{div-add-mod, mod-lt, mod-eq_of_lt, mod-eq-sub-mod, mul-add-mod_self_left}
use Rattle.std.proofs.lemmas.Bool.{cases_lt}
use Rattle.tx_pool.specs.declared.part.PoolPart.{PoolPart}
use Rattle.tx_pool.specs.Pool.{IsSlot, slot_at}

-- a walk from a number is one from the number's remainder
from_rest : (from i n : ℕ) → (from + i) % n ≡ (from % n + i) % n
from_rest from i n =
    let parts : from + i ≡ n * (from / n) + (from % n + i) = omega (arith, div-add-mod from n) in
    ap (λ (k : ℕ). k % n) parts ∙ mul-add-mod_self_left n (from / n) (from % n + i)

-- before the last slot, and after it
pub walk_on : (from i n : ℕ) → from % n + i < n → (from + i) % n ≡ from % n + i
walk_on from i n lt = from_rest from i n ∙ mod-eq_of_lt lt

pub walk_round : (from i n : ℕ) → i < n → n ≤ from % n + i → (from + i) % n ≡ from % n + i - n
walk_round from i n lt le =
    let rest : from % n < n = mod-lt from (omega arith) in
    from_rest from i n ∙ mod-eq-sub-mod le ∙ mod-eq_of_lt (omega arith)

-- each slot is come to
pub walk_covers : (from j n : ℕ) → j < n → (i : ℕ) × (i < n) × ((from + i) % n ≡ j)
walk_covers from j n lt =
    let rest : from % n < n = mod-lt from (omega arith) in
    elim (cases_lt j (from % n)) [
      | inl before ↦
          let back : n ≤ from % n + (j + n - from % n) = omega arith in
          let round : (from + (j + n - from % n)) % n ≡ from % n + (j + n - from % n) - n = walk_round from (j + n - from % n) n (omega arith) back in
          (j + n - from % n, omega arith, round ∙ omega arith)
      | inr on ↦
          let here : (from + (j - from % n)) % n ≡ from % n + (j - from % n) = walk_on from (j - from % n) n (omega arith) in
          (j - from % n, omega arith, here ∙ omega arith)
    ]

pub walk_in : (part : PoolPart) (from i : ℕ) → i < part.slots → IsSlot part (slot_at part from i)
walk_in part from i lt = let rest : (from + i) % part.slots < part.slots = mod-lt (from + i) (omega arith) in (omega arith, omega arith)

-- the next slot of the walk is one
pub next_slot : (part : PoolPart) (from n c : ℕ) → c ≡ slot_at part from n → n < part.slots → (d : ℕ) → d ≡ c → IsSlot part d
next_slot part from n c at lt d same = subst (IsSlot part) (sym (same ∙ at)) (walk_in part from n lt)

-- The words of a pool's slots among all cells.
use Rattle.std.proofs.Common.{◌≡◌, ℕ, ◌+◌, ◌-◌, ◌<◌, ◌≤◌, List, ◌⊎◌, ⊎_elim, length, get_or, set, take, drop, ap, ◌∙◌, subst, arith, length-take, length-drop}
use Rattle.std.proofs.lemmas.List.{take-set-le, drop-set-lt, drop-set-add, get_or-drop, get_or-take}
use Rattle.std.proofs.Math.Seq.{take-set-lt}
use Rattle.tx_pool.specs.declared.part.PoolPart.{PoolPart}
use Rattle.tx_pool.specs.Pool.{words_in, IsSlot}

pub words_length : (part : PoolPart) (cells : List ℕ) → part.base + part.slots ≤ length cells → length (words_in part cells) ≡ part.slots
words_length part cells le = grind (arith, length-take {A = ℕ}, length-drop {A = ℕ})

-- the word of a slot
pub words_at : (part : PoolPart) (cells : List ℕ) (i : ℕ) → i < part.slots → get_or (words_in part cells) i 0 ≡ get_or cells (part.base + i) 0
words_at part cells i lt = get_or-take part.slots (drop part.base cells) i 0 lt ∙ get_or-drop part.base cells i 0

-- a write to a slot
pub words_set : (part : PoolPart) (cells : List ℕ) (i w : ℕ) → i < part.slots → words_in part (set cells (part.base + i) w) ≡ set (words_in part cells) i w
words_set part cells i w lt =
    ap (take part.slots) (drop-set-add part.base cells i w) ∙ take-set-lt part.slots (drop part.base cells) i w lt

-- a write to another cell
pub words_outside : (part : PoolPart) (cells : List ℕ) (c w : ℕ) → (IsSlot part c → ⊥) → words_in part (set cells c w) ≡ words_in part cells
words_outside part cells c w out = ⊎_elim below above (sides c part.base)
  where
    sides : (a b : ℕ) → (a < b) ⊎ (b ≤ a)
    sides a b = grind arith

    below : c < part.base → words_in part (set cells c w) ≡ words_in part cells
    below lt = ap (take part.slots) (drop-set-lt part.base cells c w lt)

    above : part.base ≤ c → words_in part (set cells c w) ≡ words_in part cells
    above le =
        let far : part.slots ≤ c - part.base = ⊎_elim (λ in_part. absurd (out (le, in_part))) (λ past. omega arith) (sides c (part.base + part.slots)) in
        let at : part.base + (c - part.base) ≡ c = omega arith in
        subst (λ d. take part.slots (drop part.base (set cells d w)) ≡ words_in part cells) at
        (ap (take part.slots) (drop-set-add part.base cells (c - part.base) w) ∙ take-set-le part.slots (drop part.base cells) (c - part.base) w far)

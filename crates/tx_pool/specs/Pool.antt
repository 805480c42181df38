-- A pool as its cells have it: 0 in a cell is an empty slot, and any other word is an item plus 1.
use Rattle.std.specs.Prelude.{◌≡◌, ℕ, zero, suc, ◌+◌, ◌%◌, ◌^◌, ◌<◌, ◌≤◌, Bool, true, false, List, [], ◌∷◌, length, take, drop, All, Option, Some, None}
use Rattle.serial_terms.specs.Serial.{Pool, pool_of, less, more}
use Rattle.tx_pool.specs.declared.part.PoolPart.{PoolPart}

-- the items in slots with these words
abbrev pub items_in : List ℕ → List ℕ
items_in [] = []
items_in (zero ∷ ws) = items_in ws
items_in (suc x ∷ ws) = x ∷ items_in ws

module _ (part : PoolPart) where
  -- the words of the slots
  abbrev pub words_in : List ℕ → List ℕ
  words_in cells = take part.slots (drop part.base cells)

  -- the pool for which the cells stand
  abbrev pub pool_in : List ℕ → Pool
  pool_in cells = pool_of part.slots (items_in (words_in cells))

  -- the cells stand for a pool
  abbrev pub IsFormed : List ℕ → Type 0
  IsFormed cells = (part.base + part.slots ≤ length cells) × All (λ w. w < 2 ^ 64) (words_in cells)

  -- there are slots, and they are cells of the table that opened with these
  abbrev pub IsPoolOf : List ℕ → Type 0
  IsPoolOf opening = (0 < part.slots) × (part.base + part.slots ≤ length opening)

  -- the cell is a slot of the pool
  abbrev pub IsSlot : ℕ → Type 0
  IsSlot c = (part.base ≤ c) × (c < part.base + part.slots)

  -- the i-th slot of the walk once round from a slot
  abbrev pub slot_at : ℕ → ℕ → ℕ
  slot_at from i = part.base + (from + i) % part.slots

-- what a take makes of the pool p: an item that was in it is out of it, or there was none
abbrev pub TakesFrom : Pool → Pool → Option ℕ → Type 0
TakesFrom p q (Some x) = (0 < p.count x) × (q ≡ less p x)
TakesFrom p q None = (p.held ≡ 0) × (q ≡ p)

-- what a put of x makes of the pool p: x is in it once more, or there was no room
abbrev pub PutsInto : ℕ → Pool → Pool → Bool → Type 0
PutsInto x p q true = (p.held < p.slots) × (q ≡ more p x)
PutsInto x p q false = (p.held ≡ p.slots) × (q ≡ p)

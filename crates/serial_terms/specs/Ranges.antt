-- Which calls a store of a layout takes.
use Rattle.std.specs.Prelude.{ℕ, ◌-◌, ◌^◌, ◌<◌, List, length, get_or}
use Rattle.serial_terms.specs.declared.call.Call.{Call}
use Rattle.serial_terms.specs.declared.call.Call.TheVariants.{MapGet, MapPut, MapRemove, MapPutIfAbsent, Enqueue, Dequeue, QueueLen, Take, Give, Append, AppendPlaced, LogRead, LogLen, CellGet, CellPut}
use Rattle.serial_terms.specs.declared.call.Done.{Done}
use Rattle.serial_terms.specs.declared.store.Layout.{Layout}
use Rattle.serial_terms.specs.Entries.{Each}

-- a number that is kept in a cell plus 1
abbrev pub IsKept : ℕ → Type 0
IsKept n = n < 2 ^ 64 - 1

-- `passes c k` says that a map of capacity c may hold the key k
module _ (passes : ℕ → ℕ → Type 0) (layout : Layout) where
  -- the map is there, and may hold the key
  pub record IsKeyOf (m k : ℕ) : Type 0 where
    pub there : m < length layout.maps
    pub kept : IsKept k
    pub passing : passes (get_or layout.maps m 0) k

  -- the structure is there, and key and value are in their ranges
  abbrev pub IsCallOf : Call → Type 0
  IsCallOf (MapGet m k) = IsKeyOf m k
  IsCallOf (MapPut m k v) = IsKeyOf m k × IsKept v
  IsCallOf (MapRemove m k) = IsKeyOf m k
  IsCallOf (MapPutIfAbsent m k v) = IsKeyOf m k × IsKept v
  IsCallOf (Enqueue q v) = (q < length layout.queues) × IsKept v
  IsCallOf (Dequeue q) = q < length layout.queues
  IsCallOf (QueueLen q) = q < length layout.queues
  IsCallOf (Take p) = p < length layout.pools
  IsCallOf (Give p v) = (p < length layout.pools) × IsKept v
  IsCallOf (Append l v) = (l < length layout.logs) × IsKept v
  IsCallOf (AppendPlaced l v) = (l < length layout.logs) × IsKept v
  IsCallOf (LogRead l i) = (l < length layout.logs) × (i < 2 ^ 64)
  IsCallOf (LogLen l) = l < length layout.logs
  IsCallOf (CellGet c) = c < layout.cells
  IsCallOf (CellPut c v) = (c < layout.cells) × (v < 2 ^ 64)

  abbrev pub AreCallsOf : List Done → Type 0
  AreCallsOf = Each (λ d. IsCallOf d.call)

-- every key passes
abbrev pub EveryKey : ℕ → ℕ → Type 0
EveryKey c k = Unit {0}

-- the keys below the map's capacity pass
abbrev pub BelowCapacity : ℕ → ℕ → Type 0
BelowCapacity c k = k < c

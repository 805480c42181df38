-- Which cells each structure of a store has.
use Rattle.std.specs.Prelude.{ℕ, ◌+◌, ◌^◌, ◌<◌, ◌≤◌, List, length, take, All, sum, sum_by, get_or, nat_lt, if◌then◌else◌}
use Rattle.serial_terms.specs.declared.store.Layout.{Layout}
use Rattle.serial_terms.specs.declared.store.PoolLayout.{PoolLayout}
use Rattle.serial_terms.specs.Stores.{slots_of}
use Rattle.serial_terms.specs.Ranges.{IsKept}

-- how many values each map, queue, pool and log may have, in the order of their numbers, and how many plain cells there are
pub record Shape : Type 0 where
  pub maps : List ℕ
  pub queues : List ℕ
  pub pools : List ℕ
  pub logs : List ℕ
  pub cells : ℕ

abbrev pub shape_of : Layout → Shape
shape_of layout = record { maps = layout.maps; queues = layout.queues; pools = slots_of layout.pools; logs = layout.logs; cells = layout.cells }

-- a structure by its kind and its number
pub data Object : Type 0 where
  the_map : ℕ → Object
  the_queue : ℕ → Object
  the_pool : ℕ → Object
  the_log : ℕ → Object
  the_cell : ℕ → Object

-- the cells of a queue or a log that may have so many values: its end, and one for each value
abbrev pub with_end : ℕ → ℕ
with_end capacity = capacity + 1

module _ (s : Shape) where
  -- the kinds stand one behind the other: first the maps, and from these cells on the others
  abbrev pub queues_from : ℕ
  queues_from = sum s.maps

  abbrev pub pools_from : ℕ
  pools_from = queues_from + sum_by with_end s.queues

  abbrev pub logs_from : ℕ
  logs_from = pools_from + sum s.pools

  abbrev pub plain_from : ℕ
  plain_from = logs_from + sum_by with_end s.logs

  -- the number of all cells
  abbrev pub cells_of : ℕ
  cells_of = plain_from + s.cells

  -- the first cell of a structure. Those of one kind stand in the order of their numbers
  abbrev pub first_of : Object → ℕ
  first_of (the_map m) = sum (take m s.maps)
  first_of (the_queue q) = queues_from + sum_by with_end (take q s.queues)
  first_of (the_pool p) = pools_from + sum (take p s.pools)
  first_of (the_log l) = logs_from + sum_by with_end (take l s.logs)
  first_of (the_cell c) = plain_from + c

  -- how many cells it has. A structure that isn't there has none
  abbrev pub size_of : Object → ℕ
  size_of (the_map m) = get_or s.maps m 0
  size_of (the_queue q) = if nat_lt q (length s.queues) then with_end (get_or s.queues q 0) else 0
  size_of (the_pool p) = get_or s.pools p 0
  size_of (the_log l) = if nat_lt l (length s.logs) then with_end (get_or s.logs l 0) else 0
  size_of (the_cell c) = if nat_lt c s.cells then 1 else 0

  -- the cell is one of the structure's
  abbrev pub IsCellOf : Object → ℕ → Type 0
  IsCellOf o c = (first_of o ≤ c) × (c < first_of o + size_of o)

-- the pool's items are at most its slots, and each is kept in a cell plus 1
abbrev pub IsPool : PoolLayout → Type 0
IsPool p = (0 < p.slots) × (length p.items ≤ p.slots) × All IsKept p.items

-- a store can be laid out so: nothing has a capacity of 0, and the items of the pools are in range
pub record IsLayout (layout : Layout) : Type 0 where
  pub maps : All (λ c. 0 < c) layout.maps
  pub queues : All (λ c. 0 < c) layout.queues
  pub pools : All IsPool layout.pools
  pub logs : All (λ c. 0 < c) layout.logs

-- the greatest number of cells of a store
abbrev pub most_cells : ℕ
most_cells = 2 ^ 24

-- What a cell is for: the structure that it belongs to, and the place in it.
use Rattle.std.specs.Prelude.{ℕ, suc, ◌+◌, ◌<◌}
use Rattle.store_layout.specs.declared.spot.Spot.{Spot}
use Rattle.store_layout.specs.declared.spot.Spot.TheVariants.{MapKey, QueueEnd, QueueItem, PoolSlot, LogEnd, LogEntry, Plain}
use Rattle.store_layout.specs.Shapes.{Shape, Object, the_map, the_queue, the_pool, the_log, the_cell, first_of, size_of}

abbrev pub object_of : Spot → Object
object_of (MapKey m k) = the_map m
object_of (QueueEnd q) = the_queue q
object_of (QueueItem q i) = the_queue q
object_of (PoolSlot p i) = the_pool p
object_of (LogEnd l) = the_log l
object_of (LogEntry l i) = the_log l
object_of (Plain c) = the_cell c

-- which of the structure's cells it is, counted from 0
abbrev pub place_of : Spot → ℕ
place_of (MapKey m k) = k
place_of (QueueEnd q) = 0
place_of (QueueItem q i) = suc i
place_of (PoolSlot p i) = i
place_of (LogEnd l) = 0
place_of (LogEntry l i) = suc i
place_of (Plain c) = 0

module _ (s : Shape) where
  -- there is such a spot
  abbrev pub IsSpotOf : Spot → Type 0
  IsSpotOf spot = place_of spot < size_of s (object_of spot)

  -- the spot's cell
  abbrev pub cell_of : Spot → ℕ
  cell_of spot = first_of s (object_of spot) + place_of spot

use Rattle.std.proofs.Common.{◌≡◌, ◌+◌, ◌≤◌, ◌++◌, map, reverse, length, vec_len, vec_capacity}
use Rattle.std.specs.List.{All}
use Rattle.store_contents.specs.Places.{pool_at, IsPoolAt}
use Rattle.store_contents.proofs.cells.read_pools.Given as goal

abbrev pub invariant-loop-room : goal.invariant-loop-room
invariant-loop-room l = (l.pools.items ++ map (λ p. pool_at l.cells.values p) (reverse l.rooms.items) ≡ map (λ p. pool_at l.cells.values p) (reverse l.initial.rooms.items))
    × All (λ p. IsPoolAt l.cells.values p) l.rooms.items × (vec_len l.pools + length l.rooms.items ≤ vec_capacity l.pools)

abbrev pub decreases-loop-room : goal.decreases-loop-room
decreases-loop-room l = vec_len l.rooms

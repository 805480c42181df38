use Rattle.std.proofs.Common.{◌≡◌, ◌+◌, ◌≤◌, ◌++◌, map, reverse, length, vec_len, vec_capacity}
use Rattle.std.specs.List.{All}
use Rattle.store_contents.specs.Places.{queue_at, IsQueueAt}
use Rattle.store_contents.proofs.queues.read_queues.Given as goal

abbrev pub invariant-loop-room : goal.invariant-loop-room
invariant-loop-room l = (l.queues.items ++ map (λ p. queue_at l.cells.values p) (reverse l.rooms.items) ≡ map (λ p. queue_at l.cells.values p) (reverse l.initial.rooms.items))
    × All (λ p. IsQueueAt l.cells.values p) l.rooms.items × (vec_len l.queues + length l.rooms.items ≤ vec_capacity l.queues)

abbrev pub decreases-loop-room : goal.decreases-loop-room
decreases-loop-room l = vec_len l.rooms

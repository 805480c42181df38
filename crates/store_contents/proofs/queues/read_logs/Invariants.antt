use Rattle.std.proofs.Common.{◌≡◌, ◌+◌, ◌≤◌, ◌++◌, map, reverse, length, vec_len, vec_capacity}
use Rattle.std.specs.List.{All}
use Rattle.store_contents.specs.Places.{log_at, IsLogAt}
use Rattle.store_contents.proofs.queues.read_logs.Given as goal

abbrev pub invariant-loop-room : goal.invariant-loop-room
invariant-loop-room l = (l.logs.items ++ map (λ p. log_at l.cells.values p) (reverse l.rooms.items) ≡ map (λ p. log_at l.cells.values p) (reverse l.initial.rooms.items))
    × All (λ p. IsLogAt l.cells.values p) l.rooms.items × (vec_len l.logs + length l.rooms.items ≤ vec_capacity l.logs)

abbrev pub decreases-loop-room : goal.decreases-loop-room
decreases-loop-room l = vec_len l.rooms

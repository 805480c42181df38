use Rattle.std.proofs.Common.{◌≡◌, ◌+◌, ◌-◌, ◌≤◌, map, vec_len, vec_capacity}
use Rattle.store_contents.specs.Places.{words_at}
use Rattle.store_contents.proofs.queues.read_log.Given as goal

abbrev pub invariant-loop-i : goal.invariant-loop-i
invariant-loop-i l = (l.values.items ≡ map (λ w. w - 1) (words_at (l.place.first + 1) l.i l.cells.values)) × (vec_len l.values ≡ l.i) × (l.place.capacity ≤ vec_capacity l.values)

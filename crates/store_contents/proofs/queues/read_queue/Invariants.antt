use Rattle.std.proofs.Common.{◌≡◌, ◌+◌, ◌≤◌, vec_len, vec_capacity}
use Rattle.store_contents.specs.Places.{words_at}
use Rattle.store_layout.specs.States.{round_from}
use Rattle.store_contents.proofs.queues.read_queue.Given as goal

abbrev pub invariant-loop-i : goal.invariant-loop-i
invariant-loop-i l = (l.values.items ≡ round_from (words_at (l.place.first + 1) l.place.capacity l.cells.values) l.head l.i) × (vec_len l.values ≡ l.i) × (l.place.capacity ≤ vec_capacity l.values)

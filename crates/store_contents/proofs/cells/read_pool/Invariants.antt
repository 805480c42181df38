use Rattle.std.proofs.Common.{◌≡◌, ◌≤◌, vec_len, vec_capacity}
use Rattle.store_contents.specs.Places.{words_at}
use Rattle.store_layout.specs.States.{items_in}
use Rattle.store_contents.proofs.cells.read_pool.Given as goal

abbrev pub invariant-loop-slot : goal.invariant-loop-slot
invariant-loop-slot l = (l.items.items ≡ items_in (words_at l.place.first l.slot l.cells.values)) × (vec_len l.items ≤ l.slot) × (l.place.capacity ≤ vec_capacity l.items)

use Rattle.std.proofs.Common.{◌≡◌, ◌≤◌, vec_len, vec_capacity}
use Rattle.store_contents.specs.Places.{words_at}
use Rattle.store_contents.proofs.cells.read_cells.Given as goal

abbrev pub invariant-loop-i : goal.invariant-loop-i
invariant-loop-i l = (l.values.items ≡ words_at l.place.first l.i l.cells.values) × (vec_len l.values ≡ l.i) × (l.place.capacity ≤ vec_capacity l.values)

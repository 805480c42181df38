use Rattle.std.proofs.Common.{◌≤◌, vec_len, vec_capacity}
use Rattle.store_contents.specs.Places.{AreGathered}
use Rattle.store_contents.proofs.maps.gather.Given as goal

abbrev pub invariant-loop-position : goal.invariant-loop-position
invariant-loop-position l = AreGathered l.keys l.map l.place.first l.cells.values l.position l.pairs.items × (vec_len l.pairs ≤ l.position) × (l.place.capacity ≤ vec_capacity l.pairs)

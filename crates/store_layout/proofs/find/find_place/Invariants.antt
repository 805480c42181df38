use Rattle.std.proofs.Common.{ℕ, ◌<◌}
use Rattle.store_layout.specs.Plans.{IsAt}
use Rattle.store_layout.proofs.find.find_place.Given as goal

abbrev pub invariant-loop-i : goal.invariant-loop-i
invariant-loop-i l = (k : ℕ) → k < l.i → IsAt l.places l.more k l.cell → ⊥

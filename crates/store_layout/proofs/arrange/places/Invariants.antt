use Rattle.std.proofs.Common.{◌≡◌, ℕ, ◌+◌, ◌<◌, take, get_or}
use Rattle.std.specs.List.{sum_by}
use Rattle.store_layout.specs.Plans.{firsts_in, capacities_in}
use Rattle.store_layout.proofs.arrange.places.Given as goal

abbrev pub invariant-loop-size : goal.invariant-loop-size
invariant-loop-size l = record {
  sized : capacities_in l.places.items ≡ take l.size-index l.sizes;
  next : l.first ≡ l.from + sum_by (λ c. c + l.more) (take l.size-index l.sizes);
  firsts : (i : ℕ) → i < l.size-index → get_or (firsts_in l.places.items) i 0 ≡ l.from + sum_by (λ c. c + l.more) (take i l.sizes);
}

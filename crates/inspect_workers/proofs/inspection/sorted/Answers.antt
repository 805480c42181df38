use Rattle.std.proofs.Common.{ℕ, List, subst}
use Rattle.std.specs.Prelude.{IsPermutation}
use Rattle.std.proofs.lemmas.List.Sorted.{IsNonDecreasingBy-from_sort}
use Rattle.inspect_workers.proofs.inspection.sorted.Goals as goal

pub returns : goal.returns
returns c = (
  subst (λ (vs : List ℕ). IsPermutation vs c.sort_unstable.new.self.items) c.in_ok-sorted.ensures.items c.sort_unstable.ensures.permutation,
  IsNonDecreasingBy-from_sort (λ n. n) c.sort_unstable.new.self.items c.sort_unstable.ensures.sorted,
)

use Rattle.std.proofs.Common.{◌≡◌}
use Rattle.std.specs.Vec.{vec_capacity}
use Rattle.attempt_lists.specs.Buckets.{AreChains}
use Rattle.attempt_lists.proofs.chains.Chains.fill.Given as goal

abbrev pub invariant-loop-cell : goal.invariant-loop-cell
invariant-loop-cell l = record {
  chains : AreChains l.self.heads.items l.self.links.items l.entries l.cell-index;
  capacity : vec_capacity l.self.links ≡ vec_capacity l.initial.self.links;
}

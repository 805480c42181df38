use Rattle.std.proofs.Common.{◌≡◌, ◌≤◌, ◌-◌, length}
use Rattle.std.specs.Vec.{vec_capacity}
use Rattle.attempt_lists.specs.Buckets.{AreChains}
use Rattle.attempt_lists.proofs.cell_index.CellIndex.truncate_chains.Given as goal

abbrev pub decreases-loop-end : goal.decreases-loop-end
decreases-loop-end l = l.end - l.kept

abbrev pub invariant-loop-end : goal.invariant-loop-end
invariant-loop-end l = record {
  kept : l.kept ≤ l.end;
  in_range : l.end ≤ length l.entries;
  chains : AreChains l.self.chains.heads.items l.self.chains.links.items l.entries l.end;
  heads : length l.self.chains.heads.items ≡ length l.initial.self.chains.heads.items;
  capacity : vec_capacity l.self.chains.links ≡ vec_capacity l.initial.self.chains.links;
  active : l.self.active ≡ l.initial.self.active;
  ordered : l.self.ordered ≡ l.initial.self.ordered;
}

use Rattle.std.proofs.Common.{◌≡◌, length}
use Rattle.run_findings.specs.Slots.{AreEmpty}
use Rattle.run_findings.proofs.slots.empty_slots.Given as goal

abbrev pub invariant-loop-place : goal.invariant-loop-place
invariant-loop-place l = record {
  count : length l.slots.items ≡ l.place;
  empty : AreEmpty l.first l.slots.items;
}

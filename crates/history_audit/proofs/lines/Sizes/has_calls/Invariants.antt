use Rattle.std.proofs.Common.{◌↔◌, drop}
use Rattle.serial_terms.specs.Ranges.{AreCallsOf, BelowCapacity}
use Rattle.serial_terms.specs.RunLayout.{layout_by}
use Rattle.history_audit.proofs.lines.Sizes.has_calls.Given as goal

abbrev pub invariant-loop-done : goal.invariant-loop-done
invariant-loop-done l = AreCallsOf BelowCapacity (layout_by l.self.tasks l.self.groups l.self.findings) l.dones ↔ AreCallsOf BelowCapacity (layout_by l.self.tasks l.self.groups l.self.findings) (drop l.done-index l.dones)

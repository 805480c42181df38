use Rattle.std.proofs.Common.{◌-◌}
use Rattle.tx_store.specs.Resolves.{IsResolvedTo, parts_of}
use Rattle.tx_store.proofs.resolve.resolve_all.Given as goal

abbrev pub decreases-loop-tx : goal.decreases-loop-tx
decreases-loop-tx g l = parts_of l.plan - l.part

abbrev pub invariant-loop-tx : goal.invariant-loop-tx
invariant-loop-tx g l = IsResolvedTo l.plan l.part l.initial.tx l.tx

use Rattle.std.proofs.Common.{take}
use Rattle.run_bodies.specs.Matching.{AppendsInChild}
use Rattle.run_bodies.proofs.matching.appending.append_all.Given as goal

abbrev pub invariant-loop-value : goal.invariant-loop-value
invariant-loop-value g l = AppendsInChild (take l.value-index l.values) l.initial.tx l.tx

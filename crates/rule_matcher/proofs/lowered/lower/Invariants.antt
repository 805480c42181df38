use Rattle.std.proofs.Common.{◌≡◌, ◌++◌, take, drop}
use Rattle.std.specs.Prelude.{map}
use Rattle.rule_terms.specs.Match.{lowered}
use Rattle.rule_matcher.proofs.lowered.lower.Given as goal

abbrev pub invariant-loop-b : goal.invariant-loop-b
invariant-loop-b l = l.bytes ≡ map lowered (take l.b-index l.fn.bytes) ++ drop l.b-index l.fn.bytes

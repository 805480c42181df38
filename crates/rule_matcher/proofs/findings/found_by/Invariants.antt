use Rattle.std.proofs.Common.{◌≡◌, ◌++◌, drop}
use Rattle.rule_terms.specs.Match.{findings_from}
use Rattle.rule_matcher.proofs.findings.found_by.Given as goal

abbrev pub invariant-loop-number : goal.invariant-loop-number
invariant-loop-number l = l.found.items ++ findings_from l.number (drop l.number l.rules) l.header l.payload ≡ findings_from 0 l.rules l.header l.payload

use Rattle.std.proofs.Common.{◌≡◌, true, drop}
use Rattle.std.specs.List.{list_all}
use Rattle.rule_terms.specs.Match.{is_there}
use Rattle.rule_matcher.proofs.findings.are_there.Given as goal

abbrev pub invariant-loop-pattern : goal.invariant-loop-pattern
invariant-loop-pattern l = list_all (is_there l.payload) (drop l.pattern-index l.patterns) ≡ list_all (is_there l.payload) l.patterns

use Rattle.std.proofs.Common.{◌≤◌, ◌+◌, length}
use Rattle.rule_matcher.specs.Names.{AreNamesOf}
use Rattle.rule_matcher.proofs.Lines.{Reads}
use Rattle.rule_matcher.proofs.reading.rules.Given as goal

abbrev pub invariant-loop-rest : goal.invariant-loop-rest
invariant-loop-rest l = record {
  reads : Reads l.text l.rest l.number l.rules.items;
  names : AreNamesOf l.names l.rules.items;
  short : l.number + length l.rest ≤ length l.text;
}

abbrev pub decreases-loop-rest : goal.decreases-loop-rest
decreases-loop-rest l = length l.rest

use Rattle.std.proofs.Common.{◌≡◌, take, map}
use Rattle.std.specs.Prelude.{All}
use Rattle.inspection_terms.specs.Findings.{finding_number}
use Rattle.serial_terms.specs.Ranges.{IsKept}
use Rattle.run_findings.proofs.values.numbers.Given as goal

abbrev pub invariant-loop-rule : goal.invariant-loop-rule
invariant-loop-rule l = record {
  items : l.values.items ≡ map (finding_number l.frame) (take l.rule-index l.found);
  kept : All IsKept l.values.items;
}

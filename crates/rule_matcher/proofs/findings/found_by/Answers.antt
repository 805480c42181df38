use Rattle.std.proofs.Common.{arith}
use Rattle.rule_matcher.proofs.Found.{findings_more, findings_all}
use Rattle.rule_matcher.proofs.findings.found_by.Goals as goal

pub loop-number-preserved : goal.loop-number-preserved
loop-number-preserved c =
    findings_more c.args.rules.now c.args.header.now c.args.payload.now _ _ _ c.loop-number.invariant c.index-rules-number.result _ _ c.loop-number-test.true c.index-rules-number.is c.place_in_sight-place.ensures c.in_ok-add.ensures

pub returns : goal.returns
returns c = findings_all c.args.rules.now c.args.header.now c.args.payload.now _ _ c.loop-number.number c.loop-number.invariant (omega arith)

use Rattle.run_findings.proofs.Pairs.{pair_is_all}
use Rattle.run_findings.proofs.tests.make_up.Goals as goal

pub returns : goal.returns
returns c = λ both. pair_is_all c.args.end.now c.args.front.now c.if-not-end.false (c.reaches.ensures c.if-not-reaches.false) (c.is_in_first_group.ensures c.if-not-is_in_first_group.false) (c.is_in_first_group-2.ensures both)

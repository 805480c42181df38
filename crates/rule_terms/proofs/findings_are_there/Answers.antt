use Rattle.std.proofs.Common.{length, arith}
use Rattle.rule_terms.proofs.Ascending.{in_order}
use Rattle.rule_terms.proofs.findings_are_there.Goals as goal

pub returns : goal.returns
returns c = λ rules header payload k d within.
    let all = in_order 0 (length rules) rules header payload (omega arith) in
    ((all.each k d within).high, (all.each k d within).place)

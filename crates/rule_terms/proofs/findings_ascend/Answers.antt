use Rattle.std.proofs.Common.{length, arith}
use Rattle.rule_terms.proofs.Ascending.{in_order}
use Rattle.rule_terms.proofs.findings_ascend.Goals as goal

pub returns : goal.returns
returns c = λ rules header payload. (in_order 0 (length rules) rules header payload (omega arith)).ascend

use Rattle.std.proofs.Common.{sym, ◌∙◌}
use Rattle.rule_matcher.proofs.Asked.{none_found}
use Rattle.rule_matcher.proofs.findings.any_asks_for.Goals as goal

pub returns-clause-nothing : goal.returns-clause-nothing
returns-clause-nothing c = λ no payload. none_found c.args.rules.now 0 c.args.header.now payload (rw c.as_slice.ensures.rules at (sym c.any_has_protocol.ensures ∙ no))

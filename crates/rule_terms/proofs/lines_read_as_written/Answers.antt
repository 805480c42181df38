use Rattle.rule_terms.proofs.RuleLines.{written}
use Rattle.rule_terms.proofs.lines_read_as_written.Goals as goal

pub returns : goal.returns
returns c = written

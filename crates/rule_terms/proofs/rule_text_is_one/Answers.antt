use Rattle.rule_terms.proofs.Readings.{one_list}
use Rattle.rule_terms.proofs.rule_text_is_one.Goals as goal

pub returns : goal.returns
returns c = one_list

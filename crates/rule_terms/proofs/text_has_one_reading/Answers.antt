use Rattle.rule_terms.proofs.Readings.{one_reading}
use Rattle.rule_terms.proofs.text_has_one_reading.Goals as goal

pub returns : goal.returns
returns c = one_reading

use Rattle.rule_terms.proofs.Least.{least_place}
use Rattle.rule_terms.proofs.places_are_least.Goals as goal

pub returns : goal.returns
returns c = least_place

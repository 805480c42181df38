use Rattle.capture_terms.proofs.Firsts.{least_first}
use Rattle.capture_terms.proofs.group_laws.first_law.Goals as goal

pub returns : goal.returns
returns c = least_first

use Rattle.serial_terms.proofs.Commuting.{commute}
use Rattle.serial_terms.proofs.laws.parts_commute_law.Goals as goal

pub returns : goal.returns
returns c = commute

use Rattle.serial_terms.proofs.Wrong.{wrong_sights}
use Rattle.serial_terms.proofs.laws.wrong_sights_law.Goals as goal

pub returns : goal.returns
returns c = wrong_sights

use Rattle.serial_terms.proofs.Stepping.{capacities}
use Rattle.serial_terms.proofs.laws.capacities_stay_law.Goals as goal

pub returns : goal.returns
returns c = capacities

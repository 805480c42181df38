use Rattle.serial_terms.proofs.Running.{sizes}
use Rattle.serial_terms.proofs.laws.sizes_stay_law.Goals as goal

pub returns : goal.returns
returns c = sizes

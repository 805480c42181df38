use Rattle.serial_terms.proofs.Running.{reading}
use Rattle.serial_terms.proofs.laws.reading_leaves_state_law.Goals as goal

pub returns : goal.returns
returns c = reading

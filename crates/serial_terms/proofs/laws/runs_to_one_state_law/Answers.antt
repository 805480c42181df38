use Rattle.serial_terms.proofs.Running.{to_one}
use Rattle.serial_terms.proofs.laws.runs_to_one_state_law.Goals as goal

pub returns : goal.returns
returns c = to_one

use Rattle.serial_terms.proofs.Legal.{leave_one}
use Rattle.serial_terms.proofs.laws.records_leave_one_state_law.Goals as goal

pub returns : goal.returns
returns c = leave_one

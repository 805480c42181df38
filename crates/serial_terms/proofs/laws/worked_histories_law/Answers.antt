use Rattle.serial_terms.proofs.Worked.{worked_histories}
use Rattle.serial_terms.proofs.laws.worked_histories_law.Goals as goal

pub returns : goal.returns
returns c = worked_histories

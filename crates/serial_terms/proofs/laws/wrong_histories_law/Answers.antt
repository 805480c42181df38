use Rattle.serial_terms.proofs.Wrong.{wrong_histories}
use Rattle.serial_terms.proofs.laws.wrong_histories_law.Goals as goal

pub returns : goal.returns
returns c = wrong_histories

use Rattle.serial_terms.proofs.Legal.{merged_runs}
use Rattle.serial_terms.proofs.laws.merged_is_legal_law.Goals as goal

pub returns : goal.returns
returns c = merged_runs

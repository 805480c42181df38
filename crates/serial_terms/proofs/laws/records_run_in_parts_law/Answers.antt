use Rattle.serial_terms.proofs.Legal.{run_in_parts}
use Rattle.serial_terms.proofs.laws.records_run_in_parts_law.Goals as goal

pub returns : goal.returns
returns c = run_in_parts

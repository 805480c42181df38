use Rattle.serial_terms.proofs.Running.{in_parts}
use Rattle.serial_terms.proofs.laws.runs_in_parts_law.Goals as goal

pub returns : goal.returns
returns c = in_parts

use Rattle.serial_terms.proofs.Legal.{keep_sizes}
use Rattle.serial_terms.proofs.laws.records_keep_sizes_law.Goals as goal

pub returns : goal.returns
returns c = keep_sizes

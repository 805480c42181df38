use Rattle.serial_terms.proofs.Legal.{reads_see_end}
use Rattle.serial_terms.proofs.laws.last_reads_see_end_law.Goals as goal

pub returns : goal.returns
returns c = reads_see_end

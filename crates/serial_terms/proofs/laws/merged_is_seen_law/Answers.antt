use Rattle.serial_terms.proofs.Legal.{merged_seen}
use Rattle.serial_terms.proofs.laws.merged_is_seen_law.Goals as goal

pub returns : goal.returns
returns c = merged_seen

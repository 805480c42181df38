use Rattle.serial_terms.proofs.Legal.{in_order}
use Rattle.serial_terms.proofs.laws.merged_is_in_order_law.Goals as goal

pub returns : goal.returns
returns c = in_order

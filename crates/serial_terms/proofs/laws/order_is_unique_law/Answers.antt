use Rattle.serial_terms.proofs.Legal.{order_unique}
use Rattle.serial_terms.proofs.laws.order_is_unique_law.Goals as goal

pub returns : goal.returns
returns c = order_unique

use Rattle.serial_terms.proofs.Legal.{order_by_place}
use Rattle.serial_terms.proofs.laws.order_is_by_place_law.Goals as goal

pub returns : goal.returns
returns c = order_by_place

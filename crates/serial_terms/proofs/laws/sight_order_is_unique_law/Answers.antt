use Rattle.serial_terms.proofs.Seen.{sights_unique}
use Rattle.serial_terms.proofs.laws.sight_order_is_unique_law.Goals as goal

pub returns : goal.returns
returns c = sights_unique

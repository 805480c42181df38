use Rattle.serial_terms.proofs.Legal.{at_places}
use Rattle.serial_terms.proofs.laws.states_at_places_law.Goals as goal

pub returns : goal.returns
returns c = at_places

use Rattle.capture_terms.proofs.PlanLaw.{datagram_is_sound}
use Rattle.capture_terms.proofs.datagram_laws.datagram_law.Goals as goal

pub returns : goal.returns
returns c = datagram_is_sound

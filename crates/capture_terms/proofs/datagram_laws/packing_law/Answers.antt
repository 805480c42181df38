use Rattle.capture_terms.proofs.Places.{packed_most, packed_exact}
use Rattle.capture_terms.proofs.datagram_laws.packing_law.Goals as goal

pub returns-clause-most : goal.returns-clause-most
returns-clause-most c = packed_most

pub returns-clause-exact : goal.returns-clause-exact
returns-clause-exact c = packed_exact

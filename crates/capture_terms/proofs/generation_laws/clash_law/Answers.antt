use Rattle.capture_terms.proofs.Generations.{clash_same}
use Rattle.capture_terms.proofs.generation_laws.clash_law.Goals as goal

pub returns : goal.returns
returns c = clash_same

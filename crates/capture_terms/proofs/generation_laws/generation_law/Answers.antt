use Rattle.capture_terms.proofs.Generations.{frame_more}
use Rattle.capture_terms.proofs.generation_laws.generation_law.Goals as goal

pub returns-clause-frame : goal.returns-clause-frame
returns-clause-frame c = frame_more

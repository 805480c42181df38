use Rattle.capture_terms.proofs.Generations.{cooked_starts, clashes_within}
use Rattle.capture_terms.proofs.generation_laws.worked_law.Goals as goal

pub returns-clause-cooked : goal.returns-clause-cooked
returns-clause-cooked c = cooked_starts

pub returns-clause-clashes : goal.returns-clause-clashes
returns-clause-clashes c = clashes_within

use Rattle.capture_terms.proofs.Numbered.{numbers_are_of_tasks}
use Rattle.capture_terms.proofs.datagram_laws.numbers_law.Goals as goal

pub returns : goal.returns
returns c = numbers_are_of_tasks

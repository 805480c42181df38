use Rattle.journal_terms.proofs.Naming.{lines_are_named}
use Rattle.journal_terms.proofs.lines_are_named_law.Goals as goal

pub returns : goal.returns
returns c = lines_are_named

use Rattle.journal_terms.proofs.StrictLines.{lines_are_read}
use Rattle.journal_terms.proofs.lines_are_read_law.Goals as goal

pub returns : goal.returns
returns c = lines_are_read

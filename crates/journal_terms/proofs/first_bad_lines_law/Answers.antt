use Rattle.journal_terms.proofs.Beginnings.{first_bad_lines}
use Rattle.journal_terms.proofs.first_bad_lines_law.Goals as goal

pub returns : goal.returns
returns c = first_bad_lines

use Rattle.journal_terms.proofs.Journals.{are_read}
use Rattle.journal_terms.proofs.journal_texts_are_read_law.Goals as goal

pub returns : goal.returns
returns c = are_read

use Rattle.journal_terms.proofs.Journals.{reads_back}
use Rattle.journal_terms.proofs.text_reads_back_law.Goals as goal

pub returns : goal.returns
returns c = reads_back

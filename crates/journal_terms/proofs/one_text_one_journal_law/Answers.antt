use Rattle.journal_terms.proofs.Journals.{one_text}
use Rattle.journal_terms.proofs.one_text_one_journal_law.Goals as goal

pub returns : goal.returns
returns c = one_text

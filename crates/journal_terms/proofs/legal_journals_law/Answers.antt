use Rattle.journal_terms.proofs.LegalRows.{legal_journals}
use Rattle.journal_terms.proofs.legal_journals_law.Goals as goal

pub returns : goal.returns
returns c = legal_journals c.worked_histories_law.ensures c.calls_and_layouts_law.ensures

use Rattle.journal_writer.proofs.Legal.{legal}
use Rattle.journal_writer.proofs.laws.legal_journals_law.Goals as goal

pub returns : goal.returns
returns c = legal c.records_keep_sizes_law.ensures c.replies_have_kinds_law.ensures

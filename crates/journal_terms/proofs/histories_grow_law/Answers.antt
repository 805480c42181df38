use Rattle.journal_terms.proofs.Histories.{histories_grow}
use Rattle.journal_terms.proofs.histories_grow_law.Goals as goal

pub returns : goal.returns
returns c = histories_grow

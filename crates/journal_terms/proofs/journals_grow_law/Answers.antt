use Rattle.journal_terms.proofs.Grown.{journals_grow}
use Rattle.journal_terms.proofs.journals_grow_law.Goals as goal

pub returns : goal.returns
returns c = journals_grow

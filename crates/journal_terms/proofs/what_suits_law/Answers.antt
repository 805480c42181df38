use Rattle.journal_terms.proofs.Suits.{what_suits}
use Rattle.journal_terms.proofs.what_suits_law.Goals as goal

pub returns : goal.returns
returns c = what_suits

use Rattle.journal_terms.proofs.Follows.{sights_follow}
use Rattle.journal_terms.proofs.sights_follow_law.Goals as goal

pub returns : goal.returns
returns c = sights_follow

use Rattle.journal_terms.proofs.Grown.{beginnings_are_legal}
use Rattle.journal_terms.proofs.beginnings_are_legal_law.Goals as goal

pub returns : goal.returns
returns c = beginnings_are_legal

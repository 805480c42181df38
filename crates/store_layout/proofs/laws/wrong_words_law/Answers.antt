use Rattle.store_layout.proofs.Worked.{wrong_words}
use Rattle.store_layout.proofs.laws.wrong_words_law.Goals as goal

pub returns : goal.returns
returns c = wrong_words

use Rattle.run_stages.proofs.Telling.{word_fits}
use Rattle.run_stages.proofs.laws.added_word_fits_law.Goals as goal

pub returns : goal.returns
returns c = word_fits

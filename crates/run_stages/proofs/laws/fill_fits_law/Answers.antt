use Rattle.run_stages.proofs.Ending.{fill_fits}
use Rattle.run_stages.proofs.laws.fill_fits_law.Goals as goal

pub returns : goal.returns
returns c = fill_fits

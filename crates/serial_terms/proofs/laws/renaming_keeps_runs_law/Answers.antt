use Rattle.serial_terms.proofs.Renaming.{renamed}
use Rattle.serial_terms.proofs.laws.renaming_keeps_runs_law.Goals as goal

pub returns : goal.returns
returns c = renamed

use Rattle.serial_terms.proofs.Renamed.{renamed_histories}
use Rattle.serial_terms.proofs.laws.renaming_keeps_histories_law.Goals as goal

pub returns : goal.returns
returns c = renamed_histories

use Rattle.serial_terms.proofs.Renamed.{names_change}
use Rattle.serial_terms.proofs.purpose.names_change_keys_law.Goals as goal

pub returns : goal.returns
returns g c = names_change g.K.KeyRule.passes

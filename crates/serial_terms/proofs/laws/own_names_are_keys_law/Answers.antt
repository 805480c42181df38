use Rattle.serial_terms.proofs.Renaming.{own_names}
use Rattle.serial_terms.proofs.laws.own_names_are_keys_law.Goals as goal

pub returns : goal.returns
returns c = own_names

use Rattle.serial_terms.proofs.Running.{kinds}
use Rattle.serial_terms.proofs.laws.replies_have_kinds_law.Goals as goal

pub returns : goal.returns
returns c = kinds

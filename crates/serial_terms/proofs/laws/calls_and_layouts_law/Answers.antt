use Rattle.serial_terms.proofs.Wrong.{calls_and_layouts}
use Rattle.serial_terms.proofs.laws.calls_and_layouts_law.Goals as goal

pub returns : goal.returns
returns c = calls_and_layouts

use Rattle.store_layout.proofs.Parts.{parts_are_apart}
use Rattle.store_layout.proofs.laws.parts_are_apart_law.Goals as goal

pub returns : goal.returns
returns c = parts_are_apart

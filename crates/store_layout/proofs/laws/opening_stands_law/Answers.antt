use Rattle.store_layout.proofs.Opened.{opening_stands}
use Rattle.store_layout.proofs.laws.opening_stands_law.Goals as goal

pub returns : goal.returns
returns c = opening_stands

use Rattle.store_layout.proofs.Spots.{cells_have_spots}
use Rattle.store_layout.proofs.laws.cells_have_spots_law.Goals as goal

pub returns : goal.returns
returns c = cells_have_spots

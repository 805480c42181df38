use Rattle.tx_map.proofs.Apart.{same_map}
use Rattle.tx_map.proofs.part.MapPart.same_cells_law.Goals as goal

pub returns-clause-same : goal.returns-clause-same
returns-clause-same c = same_map c.args.self.now

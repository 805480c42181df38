use Rattle.history_audit.proofs.Stated.{cell_put}
use Rattle.history_audit.proofs.structures.Structures.set_cell.Goals as goal

pub returns : goal.returns
returns c = cell_put c.args.self.now c.args.value

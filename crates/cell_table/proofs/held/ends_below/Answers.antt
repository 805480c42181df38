use Rattle.std.proofs.Common.{false}
use Rattle.cell_table.proofs.HeldList.{point_past, below}
use Rattle.cell_table.proofs.held.ends_below.Goals as goal

pub returns : goal.returns
returns c = λ low. point_past c.args.cell c.args.held.now (record { cell = 0; version = 0; stored = false }) c.requires (λ some. below _ _ low)

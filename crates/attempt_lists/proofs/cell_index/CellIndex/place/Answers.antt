use Rattle.attempt_lists.proofs.Index.{scanned}
use Rattle.attempt_lists.proofs.cell_index.CellIndex.place.Goals as goal

pub returns-else-self-2 : goal.returns-else-self-2
returns-else-self-2 c = scanned c.args.entries.now c.args.cell c.scan.result c.scan.ensures

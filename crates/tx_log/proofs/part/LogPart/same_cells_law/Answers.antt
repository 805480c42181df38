use Rattle.tx_log.proofs.Logs.{same_log}
use Rattle.tx_log.proofs.part.LogPart.same_cells_law.Goals as goal

pub returns : goal.returns
returns c = same_log c.args.self.now

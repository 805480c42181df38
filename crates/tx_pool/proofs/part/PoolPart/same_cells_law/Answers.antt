use Rattle.tx_pool.proofs.Apart.{same_cells}
use Rattle.tx_pool.proofs.part.PoolPart.same_cells_law.Goals as goal

pub returns : goal.returns
returns c = same_cells c.args.self.now

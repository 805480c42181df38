use Rattle.tx_pool.proofs.Apart.{opens}
use Rattle.tx_pool.proofs.part.PoolPart.opens_with_items_law.Goals as goal

pub returns : goal.returns
returns c = opens c.args.self.now

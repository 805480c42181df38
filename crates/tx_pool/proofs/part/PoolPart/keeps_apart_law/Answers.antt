use Rattle.tx_pool.proofs.Apart.{formed_apart, pool_apart}
use Rattle.tx_pool.proofs.part.PoolPart.keeps_apart_law.Goals as goal

pub returns-clause-formed : goal.returns-clause-formed
returns-clause-formed c = formed_apart c.args.self.now

pub returns-clause-same : goal.returns-clause-same
returns-clause-same c = pool_apart c.args.self.now

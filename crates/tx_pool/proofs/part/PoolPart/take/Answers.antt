use Rattle.std.proofs.Common.{rules}
use Rattle.tx_pool.proofs.Claims.{takes_pool}
use Rattle.tx_pool.proofs.part.PoolPart.take.Goals as goal

pub returns-in-Ok-clause-explains : goal.returns-in-Ok-clause-explains
returns-in-Ok-clause-explains g c cells all formed =
    takes_pool c.args.self.now _ _ c.in-Ok.word c.item_of.result c.pools_are_counts.ensures formed (c.in-Ok.ensures.explains cells all formed) (search rules) c.item_of.ensures

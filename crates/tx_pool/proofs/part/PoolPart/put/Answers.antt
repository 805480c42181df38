use Rattle.std.proofs.Common.{rules}
use Rattle.tx_pool.proofs.Claims.{puts_pool}
use Rattle.tx_pool.proofs.part.PoolPart.put.Goals as goal

pub returns-in-Ok-clause-explains : goal.returns-in-Ok-clause-explains
returns-in-Ok-clause-explains g c cells all formed =
    rw c.is_some.ensures (puts_pool c.args.self.now _ _ c.args.value c.in-Ok.word c.pools_are_counts.ensures c.requires.value formed (c.in-Ok.ensures.explains cells all formed) (search rules))

use Rattle.store_parts.proofs.Pools.{pool_calls}
use Rattle.store_parts.proofs.laws.pool_calls_law.Goals as goal

pub returns : goal.returns
returns c = λ s p is some. pool_calls c.parts_are_apart_law.ensures s p c.args.part.now is some c.serial_law.ensures.take c.serial_law.ensures.put

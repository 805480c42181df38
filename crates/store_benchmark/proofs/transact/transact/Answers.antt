use Rattle.store_benchmark.proofs.Adding.{transacts}
use Rattle.store_benchmark.proofs.transact.transact.Goals as goal

pub returns-in-Ok : goal.returns-in-Ok
returns-in-Ok g c = transacts c.args.store.now c.args.pass _ _ _ _ c.in-Ok.done.0 c.in-Ok.done.1 c.requires.may.some c.in-Ok.ensures.committed c.in-Ok.ensures.left

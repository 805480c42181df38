use Rattle.store_benchmark.proofs.Asking.{asks_then}
use Rattle.store_benchmark.proofs.touch.get_and_put.Goals as goal

pub returns : goal.returns
returns c = asks_then c.args.tx.now c.get_all.new.tx c.put_all.new.tx _ (λ x. _) c.put_all.result c.in_ok-get_all.ensures c.put_all.ensures

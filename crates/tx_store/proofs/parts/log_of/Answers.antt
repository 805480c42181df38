use Rattle.std.proofs.Common.{arith, rules}
use Rattle.tx_store.proofs.LogCalls.{few}
use Rattle.tx_store.proofs.parts.log_of.Goals as goal

pub overflow_add-result : goal.overflow_add-result
overflow_add-result c = omega (arith, few c.args.plan.now c.args.log c.requires (search rules), c.queues.ensures)

use Rattle.tx_stack.proofs.Closing.{sees_stacks}
use Rattle.tx_stack.proofs.closed.seen_stacks_law.Goals as goal

pub returns : goal.returns
returns c = sees_stacks c.args.tx.now c.requires c.tells_law.ensures.named c.seen_law.ensures

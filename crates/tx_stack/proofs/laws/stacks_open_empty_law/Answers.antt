use Rattle.tx_stack.proofs.Records.{open_empty}
use Rattle.tx_stack.proofs.laws.stacks_open_empty_law.Goals as goal

pub returns : goal.returns
returns c = open_empty

use Rattle.tx_stack.proofs.Closing.{closes}
use Rattle.tx_stack.proofs.closed.closed_stacks_law.Goals as goal

pub returns : goal.returns
returns c = closes c.stacks_open_empty_law.ensures c.records_run_on_lists_law.ensures

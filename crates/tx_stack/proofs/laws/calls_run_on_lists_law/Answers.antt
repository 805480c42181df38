use Rattle.tx_stack.proofs.Records.{calls_run}
use Rattle.tx_stack.proofs.laws.calls_run_on_lists_law.Goals as goal

pub returns : goal.returns
returns c = calls_run

use Rattle.tx_stack.proofs.Records.{records_run}
use Rattle.tx_stack.proofs.laws.records_run_on_lists_law.Goals as goal

pub returns : goal.returns
returns c = records_run

use Rattle.run_stages.proofs.Telling.{takes_less}
use Rattle.run_stages.proofs.laws.one_caller_takes_less_law.Goals as goal

pub returns : goal.returns
returns c = takes_less

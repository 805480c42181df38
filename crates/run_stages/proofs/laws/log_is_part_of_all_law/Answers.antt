use Rattle.run_stages.proofs.Telling.{log_within}
use Rattle.run_stages.proofs.laws.log_is_part_of_all_law.Goals as goal

pub returns : goal.returns
returns c = log_within

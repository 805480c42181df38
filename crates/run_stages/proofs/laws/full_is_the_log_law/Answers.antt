use Rattle.run_stages.proofs.Ending.{full_log}
use Rattle.run_stages.proofs.laws.full_is_the_log_law.Goals as goal

pub returns : goal.returns
returns c = full_log c.allowed_keeps_lawful_law.ensures c.log_is_part_of_all_law.ensures

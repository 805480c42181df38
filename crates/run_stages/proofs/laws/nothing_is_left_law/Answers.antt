use Rattle.run_stages.proofs.Ending.{nothing_left}
use Rattle.run_stages.proofs.laws.nothing_is_left_law.Goals as goal

pub returns : goal.returns
returns c = nothing_left c.last_reads_see_end_law.ensures

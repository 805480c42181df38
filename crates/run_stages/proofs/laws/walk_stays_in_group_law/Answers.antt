use Rattle.run_stages.proofs.Telling.{walk_inside}
use Rattle.run_stages.proofs.laws.walk_stays_in_group_law.Goals as goal

pub returns : goal.returns
returns c = walk_inside

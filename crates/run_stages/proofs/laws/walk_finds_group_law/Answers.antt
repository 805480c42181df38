use Rattle.run_stages.proofs.Telling.{walk_whole}
use Rattle.run_stages.proofs.laws.walk_finds_group_law.Goals as goal

pub returns : goal.returns
returns c = walk_whole

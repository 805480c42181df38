use Rattle.run_stages.proofs.Finishing.{all_found}
use Rattle.run_stages.proofs.laws.finished_finds_all_law.Goals as goal

pub returns : goal.returns
returns c = all_found

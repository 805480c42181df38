use Rattle.run_stages.proofs.Finishing.{incomplete_kept}
use Rattle.run_stages.proofs.laws.finished_keeps_incomplete_law.Goals as goal

pub returns : goal.returns
returns c = incomplete_kept

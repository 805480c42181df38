use Rattle.run_stages.proofs.Small.{plans_small}
use Rattle.run_stages.proofs.from_capture.plans_are_small_law.Goals as goal

pub returns : goal.returns
returns c = plans_small

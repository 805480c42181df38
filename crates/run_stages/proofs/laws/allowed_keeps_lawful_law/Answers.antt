use Rattle.run_stages.proofs.Steps.{steps}
use Rattle.run_stages.proofs.laws.allowed_keeps_lawful_law.Goals as goal

pub returns : goal.returns
returns c = steps c.runs_in_parts_law.ensures

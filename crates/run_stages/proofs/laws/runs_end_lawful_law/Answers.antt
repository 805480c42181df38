use Rattle.run_stages.proofs.Bounds.{end_lawful}
use Rattle.run_stages.proofs.laws.runs_end_lawful_law.Goals as goal

pub returns : goal.returns
returns c = end_lawful c.runs_in_parts_law.ensures c.allowed_keeps_lawful_law.ensures

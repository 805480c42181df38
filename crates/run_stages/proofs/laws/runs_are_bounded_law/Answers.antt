use Rattle.run_stages.proofs.Bounds.{bounded}
use Rattle.run_stages.proofs.laws.runs_are_bounded_law.Goals as goal

pub returns : goal.returns
returns c = bounded c.runs_in_parts_law.ensures c.allowed_keeps_lawful_law.ensures

use Rattle.run_stages.proofs.Bounds.{fills_counted}
use Rattle.run_stages.proofs.laws.fills_are_counted_law.Goals as goal

pub returns : goal.returns
returns c = fills_counted c.runs_in_parts_law.ensures c.allowed_keeps_lawful_law.ensures

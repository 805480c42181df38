use Rattle.run_stages.proofs.Wrong.{counts_and_layouts}
use Rattle.run_stages.proofs.laws.counts_and_layouts_law.Goals as goal

pub returns : goal.returns
returns c = counts_and_layouts

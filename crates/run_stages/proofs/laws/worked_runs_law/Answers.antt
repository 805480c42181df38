use Rattle.run_stages.proofs.Worked.{worked_runs}
use Rattle.run_stages.proofs.laws.worked_runs_law.Goals as goal

pub returns : goal.returns
returns c = worked_runs c.worked_histories_law.ensures c.runs_end_lawful_law.ensures

use Rattle.run_stages.proofs.Telling.{taken_task}
use Rattle.run_stages.proofs.laws.taken_is_task_law.Goals as goal

pub returns : goal.returns
returns c = taken_task

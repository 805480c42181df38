use Rattle.run_stages.proofs.FromTasks.{long, groups_are, facts_at}
use Rattle.run_stages.proofs.from_capture.tasks_have_facts_law.Goals as goal

pub returns : goal.returns
returns c = λ rules bytes tasks groups. (long rules bytes tasks groups, groups_are rules bytes tasks groups, facts_at rules bytes tasks groups)

use Rattle.run_stages.proofs.FromTasks.{is_sound}
use Rattle.run_stages.proofs.from_capture.plans_are_work_law.Goals as goal

pub returns : goal.returns
returns c = λ rules bytes capture window planned fine is. is_sound rules bytes planned.tasks.items planned.groups.items (c.group_law.ensures bytes capture window planned fine is)

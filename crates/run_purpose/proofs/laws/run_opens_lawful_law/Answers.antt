use Rattle.run_purpose.proofs.Opens.{opens_lawful}
use Rattle.run_purpose.proofs.laws.run_opens_lawful_law.Goals as goal

pub returns : goal.returns
returns c = opens_lawful c.plans_are_work_law.ensures c.plans_are_small_law.ensures c.tasks_have_facts_law.ensures c.opening_is_lawful_law.ensures c.allowed_keeps_lawful_law.ensures

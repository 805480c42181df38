use Rattle.capture_terms.proofs.PlanGroups.{plan_grouped}
use Rattle.capture_terms.proofs.group_laws.group_law.Goals as goal

pub returns : goal.returns
returns c = plan_grouped

use Rattle.std.proofs.Common.{ℕ, ◌<◌, List, subst}
use Rattle.std.specs.Prelude.{AllPairs}
use Rattle.capture_terms.specs.declared.plan.Task.{Task}
use Rattle.inspection_terms.specs.Findings.{all_findings}
use Rattle.inspection_terms.proofs.Ascending.{findings_rise}
use Rattle.inspection_terms.proofs.capture_findings_ascend.Goals as goal

pub returns : goal.returns
returns c = λ rules bytes capture window plan few fine is.
    subst (λ (tasks : List Task). AllPairs (λ (f later : ℕ). f < later) (all_findings rules bytes tasks)) is.tasks
    (findings_rise rules bytes few c.findings_ascend.ensures c.findings_are_there.ensures plan.tasks.items plan.groups.items (c.group_law.ensures bytes capture window plan fine is) (c.task_law.ensures.ascending bytes capture window plan is))

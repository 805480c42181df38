use Rattle.std.proofs.Common.{List, subst}
use Rattle.std.specs.Prelude.{IsPermutation}
use Rattle.capture_terms.specs.declared.plan.Task.{Task}
use Rattle.inspection_terms.specs.Findings.{all_findings}
use Rattle.run_stages.proofs.FromCapture.{log_found}
use Rattle.run_stages.proofs.from_capture.finished_finds_capture_law.Goals as goal

pub returns : goal.returns
returns c = λ rules bytes capture window planned is s lawful finished.
    subst (λ (tasks : List Task). IsPermutation (all_findings rules bytes tasks) (s.logs 0).items) is.tasks
    (log_found rules bytes planned.tasks.items planned.groups.items (record { named = c.member_law.ensures.named; each = c.member_law.ensures.each; only = c.member_law.ensures.only; complete = c.member_law.ensures.complete }) (c.task_law.ensures.ascending bytes capture window planned is) s lawful finished)

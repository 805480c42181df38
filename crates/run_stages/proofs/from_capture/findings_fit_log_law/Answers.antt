use Rattle.std.proofs.Common.{◌≡◌, ℕ, ◌∙◌, ◌≤◌, List, ap, length, subst}
use Rattle.capture_terms.specs.Capture.{contents_of}
use Rattle.capture_terms.specs.declared.plan.Task.{Task}
use Rattle.inspection_terms.specs.Findings.{all_findings, findings_of_capture}
use Rattle.run_stages.specs.Work.{values_of}
use Rattle.run_stages.specs.FromCapture.{work_of_plan}
use Rattle.run_stages.proofs.FromCapture.{items, all_items, items_values}
use Rattle.run_stages.proofs.from_capture.findings_fit_log_law.Goals as goal

pub returns : goal.returns
returns c = λ rules bytes capture window planned fine is findings records end run finished.
    let all : List ℕ = items rules bytes planned.tasks.items planned.groups.items in
    let every = all_items rules bytes planned.tasks.items planned.groups.items (record { named = c.member_law.ensures.named; each = c.member_law.ensures.each; only = c.member_law.ensures.only; complete = c.member_law.ensures.complete }) (c.task_law.ensures.ascending bytes capture window planned is) in
    let same : values_of (work_of_plan rules bytes planned) all ≡ findings_of_capture rules bytes window (contents_of capture) =
    items_values rules bytes planned.tasks.items planned.groups.items ∙ ap (λ (tasks : List Task). all_findings rules bytes tasks) is.tasks in
    let sound = c.plans_are_work_law.ensures rules bytes capture window planned fine is in
    subst (λ (found : List ℕ). length found ≤ findings) same (c.finished_fits_log_law.ensures (work_of_plan rules bytes planned) sound findings records end run finished all every)

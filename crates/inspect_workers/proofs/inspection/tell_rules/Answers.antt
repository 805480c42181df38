use Rattle.std.proofs.Common.{ℕ, ◌≤◌, subst}
use Rattle.inspect_workers.proofs.RulesThere.{rules_there}
use Rattle.inspect_workers.proofs.inspection.tell_rules.Goals as goal

pub returns : goal.returns
returns c =
    let run = c.args.run.now in
    let planned = c.requires in
    rules_there run.rules.now run.bytes.now (subst (λ (n : ℕ). n ≤ 1024) c.len.ensures.len c.len.ensures.few) c.findings_are_there.ensures run.plan.now.tasks.items run.plan.now.groups.items
    (c.group_law.ensures run.bytes.now planned.capture planned.window run.plan.now planned.fine planned.is)

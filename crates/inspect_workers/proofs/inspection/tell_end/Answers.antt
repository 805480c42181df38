use Rattle.std.proofs.Common.{ℕ, ◌≤◌, subst}
use Rattle.inspect_workers.proofs.Ending.{tells}
use Rattle.inspect_workers.proofs.inspection.tell_end.Goals as goal

pub returns : goal.returns
returns c history contents finished ordered =
    let run = c.args.run.now in
    let planned = c.requires in
    tells run.rules.now run.bytes.now planned.capture planned.window run.plan.now c.args.findings planned.fine planned.is contents
    (c.finished_runs_find_all_law.ensures run.rules.now run.bytes.now planned.capture planned.window run.plan.now planned.fine planned.is c.args.findings history contents finished)
    c.sorted_are_findings.ensures (subst (λ (n : ℕ). n ≤ 1024) c.len.ensures.len c.len.ensures.few) c.tell_rules.ensures history finished ordered

use Rattle.std.proofs.Common.{◌<◌, length, ◌∙◌, arith}
use Rattle.std.proofs.lemmas.Result.{IfOk-weaker}
use Rattle.run_findings.proofs.Found.{whole_is}
use Rattle.run_findings.proofs.datagrams.whole_values.Goals as goal

pub returns-clause-values : goal.returns-clause-values
returns-clause-values c =
    let plan = c.args.plan.now in
    let facts = c.tasks_have_facts_law.ensures c.args.rules.now c.args.bytes.now plan.tasks.items plan.groups.items in
    let there : c.args.number < length plan.tasks.items = omega (arith, facts.0, c.requires.whole.below) in
    IfOk-weaker c.task_values.result _ _
    (λ values is. is ∙ whole_is c.args.rules.now c.args.bytes.now plan.tasks.items plan.groups.items c.args.number c.index.result.now there c.index.ensures)
    c.task_values.ensures.values

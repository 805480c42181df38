use Rattle.run_findings.proofs.Found.{is_whole}
use Rattle.run_findings.proofs.slots.values_ahead.Goals as goal

pub whole_values-requires-clause-whole : goal.whole_values-requires-clause-whole
whole_values-requires-clause-whole c =
    let plan = c.args.plan.now in
    is_whole c.tasks_have_facts_law.ensures c.args.rules.now c.args.bytes.now plan.tasks.items plan.groups.items c.args.number c.index.result.now c.requires.there c.index.ensures c.in-None.is

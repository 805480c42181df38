use Rattle.std.proofs.Common.{length, sym, ◌∙◌}
use Rattle.std.proofs.lemmas.Result.{IfOk-weaker}
use Rattle.run_stages.specs.FromCapture.{work_of_plan}
use Rattle.run_findings.proofs.Found.{all_there}
use Rattle.run_findings.proofs.datagrams.group_values.Goals as goal

pub datagram_values-requires-clause-there : goal.datagram_values-requires-clause-there
datagram_values-requires-clause-there c =
    let plan = c.args.plan.now in
    let facts = c.tasks_have_facts_law.ensures c.args.rules.now c.args.bytes.now plan.tasks.items plan.groups.items in
    all_there (length (work_of_plan c.args.rules.now c.args.bytes.now plan).tasks) (length plan.tasks.items) c.args.numbers.now facts.0 (λ i here. (c.requires.tasks.only i here).below)

pub datagram_values-requires-clause-datagram : goal.datagram_values-requires-clause-datagram
datagram_values-requires-clause-datagram c =
    let plan = c.args.plan.now in
    let t = c.requires.tasks in
    let d = c.group_is_datagram_law.ensures c.args.rules.now c.args.bytes.now plan.tasks.items plan.groups.items c.args.group c.args.numbers.now t.complete t.all t.only in
    (d.0, d.1)

pub returns-clause-values : goal.returns-clause-values
returns-clause-values c =
    let plan = c.args.plan.now in
    let t = c.requires.tasks in
    let d = c.group_is_datagram_law.ensures c.args.rules.now c.args.bytes.now plan.tasks.items plan.groups.items c.args.group c.args.numbers.now t.complete t.all t.only in
    IfOk-weaker c.datagram_values.result _ _ (λ values found. found d.0 d.1 ∙ sym d.2) c.datagram_values.ensures.values

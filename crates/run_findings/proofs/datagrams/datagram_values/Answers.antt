use Rattle.std.proofs.Common.{◌∙◌}
use Rattle.std.proofs.lemmas.Result.{IfOk-weaker}
use Rattle.run_findings.proofs.Found.{begins_with, findings_first, findings_none}
use Rattle.run_findings.proofs.datagrams.datagram_values.Goals as goal

pub returns-then-not-any_asks_for-clause-values : goal.returns-then-not-any_asks_for-clause-values
returns-then-not-any_asks_for-clause-values c = λ datagram at.
    let begins = begins_with c.first_law.ensures c.args.plan.now.tasks.items c.args.numbers.now datagram c.least_of.result c.index-first.result.now at c.least_of.ensures.among c.least_of.ensures.least c.requires.there c.index-first.ensures in
    c.new.ensures.items ∙ findings_none c.args.rules.now c.args.bytes.now datagram c.index-first.result.now begins (c.any_asks_for.ensures.nothing c.if-not-any_asks_for.true)

pub returns-clause-values : goal.returns-clause-values
returns-clause-values c =
    IfOk-weaker c.values_in.result _ _
    (λ values is datagram at.
    let begins = begins_with c.first_law.ensures c.args.plan.now.tasks.items c.args.numbers.now datagram c.least_of.result c.index-first.result.now at c.least_of.ensures.among c.least_of.ensures.least c.requires.there c.index-first.ensures in
    is ∙ findings_first c.args.rules.now c.args.bytes.now c.deref.result.now datagram c.index-first.result.now begins (c.deref.ensures.value ∙ c.in_ok-data.ensures.bytes datagram at))
    c.values_in.ensures.values

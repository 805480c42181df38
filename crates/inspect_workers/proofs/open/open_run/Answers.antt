use Rattle.std.proofs.Common.{sym, subst}
use Rattle.run_purpose.specs.Lawful.{IsLawfulRun}
use Rattle.run_stages.specs.FromCapture.{work_of_plan}
use Rattle.serial_terms.specs.declared.store.Layout.{Layout}
use Rattle.serial_terms.specs.Stores.{opening_of}
use Rattle.inspect_workers.proofs.Starting.{opened_for, opening_pass}
use Rattle.inspect_workers.proofs.open.open_run.Goals as goal

pub run_layout-requires-clause-small : goal.run_layout-requires-clause-small
run_layout-requires-clause-small c = (c.run_opens_lawful_law.ensures c.args.rules.now c.args.bytes.now c.args.plan.now c.requires.plan).0

pub open-requires-clause-lawful : goal.open-requires-clause-lawful
open-requires-clause-lawful c =
    subst (λ (layout : Layout). IsLawfulRun (work_of_plan c.args.rules.now c.args.bytes.now c.args.plan.now) (opening_of layout)) (sym c.in_ok-layout.ensures.layout)
    ((c.run_opens_lawful_law.ensures c.args.rules.now c.args.bytes.now c.args.plan.now c.requires.plan).1 c.args.findings)

pub returns-in-Ok-clause-store : goal.returns-in-Ok-clause-store
returns-in-Ok-clause-store c =
    opened_for (record { plan = c.args.plan; rules = c.args.rules; bytes = c.args.bytes }) c.args.findings c.in_ok-layout.layout c.in-Ok.opened.0 c.requires.plan c.requires.findings.1
    c.in_ok-layout.ensures.layout c.in_ok-layout.ensures.fits c.in-Ok.ensures.store.0 c.in-Ok.ensures.store.1 c.open.ensures.opening

pub returns-in-Ok-clause-pass : goal.returns-in-Ok-clause-pass
returns-in-Ok-clause-pass c = opening_pass c.args.workers c.in-Ok.opened.0 c.in-Ok.opened.1 c.in-Ok.ensures.of c.in-Ok.ensures.store.2 c.in-Ok.ensures.pass.0

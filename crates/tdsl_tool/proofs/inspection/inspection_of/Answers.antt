use Rattle.std.proofs.Common.{subst}
use Rattle.inspect_workers.specs.Inspected.{IsInspectEnd}
use Rattle.inspect_workers.specs.declared.inspection.InspectEnd.{InspectEnd}
use Rattle.tdsl_tool.proofs.Reported.{too_many_is}
use Rattle.tdsl_tool.proofs.inspection.inspection_of.Goals as goal

pub returns-in-Err-clause-stops : goal.returns-in-Err-clause-stops
returns-in-Err-clause-stops g c = λ name. c.in-Err.ensures.stops c.args.settings c.args.rules.now name

pub returns-in-Err-LogFull-clause-stops : goal.returns-in-Err-LogFull-clause-stops
returns-in-Err-LogFull-clause-stops g c = λ name.
    let full = subst (λ (end : InspectEnd). IsInspectEnd c.args.rules.now c.args.bytes.now c.in-Ok-classify.plan c.args.settings.findings end) c.in-Err-LogFull.field-0-is c.in-Err-LogFull.ensures.refused in
    too_many_is c.args.settings c.args.rules.now name c.args.bytes.now c.in-Ok.capture c.in-Ok-classify.plan c.requires.short c.in-Ok.ensures.capture c.in-Ok-classify.ensures full.1

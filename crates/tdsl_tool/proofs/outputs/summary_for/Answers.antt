use Rattle.std.proofs.Common.{◌∙◌, ℕ, [], length, Option, IsSomeAnd, Vec, Global, sym, ap, subst, arith}
use Rattle.report.specs.Fault.{cause_of}
use Rattle.tx_store.specs.Closed.{HistoryView}
use Rattle.tdsl_tool.specs.Handed.{IsHistoryOfTrial, records_in}
use Rattle.tdsl_tool.proofs.Tried.{rules_stop, rules_same, capture_stop, trial_history, summary_is}
use Rattle.tdsl_tool.proofs.outputs.summary_for.Goals as goal

pub returns-in-Err-clause-stops : goal.returns-in-Err-clause-stops
returns-in-Err-clause-stops g c =
    rules_stop c.trial_rules_law.ensures c.one_verdict.ensures.rules c.trial_rules.result.now (cause_of c.in-Err.fault) c.trial_rules.ensures c.in-Err.ensures.stops

pub returns-in-Err-inspection_of-clause-stops : goal.returns-in-Err-inspection_of-clause-stops
returns-in-Err-inspection_of-clause-stops g c =
    let making = c.args.making in
    let read = c.generated_is_read_law.ensures making.seed making.frames making.few in
    let rules_are = rules_same c.trial_rules_law.ensures c.one_verdict.ensures.rules c.trial_rules.result.now c.in-Ok.rules c.trial_rules.ensures c.in-Ok.ensures.rules in
    capture_stop c.args.workers making.seed making.frames making.few read.0 read.1 c.in-Ok.rules c.deref.result.now rules_are (c.deref.ensures.value ∙ c.in-Ok-capture_for.ensures.bytes)
    c.trial_rules_law.ensures c.one_verdict.ensures.files (omega (arith, c.in-Ok-capture_for.ensures.short, ap (length {A = ℕ}) c.deref.ensures.value)) (cause_of c.in-Err-inspection_of.fault)
    (c.in-Err-inspection_of.ensures.stops [])

pub returns-in-Ok-summary_text-clause-summary : goal.returns-in-Ok-summary_text-clause-summary
returns-in-Ok-summary_text-clause-summary g c =
    let making = c.args.making in
    let read = c.generated_is_read_law.ensures making.seed making.frames making.few in
    let rules_are = rules_same c.trial_rules_law.ensures c.one_verdict.ensures.rules c.trial_rules.result.now c.in-Ok.rules c.trial_rules.ensures c.in-Ok.ensures.rules in
    summary_is c.args.workers making.seed making.frames making.few read.0 read.1 c.in-Ok.rules c.deref.result.now rules_are (c.deref.ensures.value ∙ c.in-Ok-capture_for.ensures.bytes)
    c.one_verdict.ensures.answer c.in-Ok-inspection_of.it c.deref-2.result.now c.told_by.result.text.items c.in-Ok-inspection_of.ensures.found c.deref-2.ensures.value
    (ap (λ (text : Vec ℕ Global). text.items) c.told_by.ensures.text ∙ c.in-Ok-summary_text.ensures)

pub returns-in-Ok-summary_text-clause-history : goal.returns-in-Ok-summary_text-clause-history
returns-in-Ok-summary_text-clause-history g c =
    let making = c.args.making in
    let read = c.generated_is_read_law.ensures making.seed making.frames making.few in
    let rules_are = rules_same c.trial_rules_law.ensures c.one_verdict.ensures.rules c.trial_rules.result.now c.in-Ok.rules c.trial_rules.ensures c.in-Ok.ensures.rules in
    subst (λ (h : Option HistoryView). IsSomeAnd (records_in h) (IsHistoryOfTrial c.args.workers making.seed making.frames)) (sym c.told_by.ensures.history)
    (trial_history c.args.workers making.seed making.frames making.few read.0 read.1 c.in-Ok.rules c.deref.result.now rules_are (c.deref.ensures.value ∙ c.in-Ok-capture_for.ensures.bytes)
    c.in-Ok-inspection_of.it c.in-Ok-inspection_of.ensures.found)

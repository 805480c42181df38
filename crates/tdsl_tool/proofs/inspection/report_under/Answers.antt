use Rattle.std.proofs.Common.{ℕ, ◌∙◌, Option, sym, ap, subst, IsSomeAnd, Vec, Global}
use Rattle.tx_store.specs.Closed.{HistoryView}
use Rattle.tdsl_tool.specs.Handed.{IsHistoryOf, records_in}
use Rattle.tdsl_tool.proofs.Reported.{history_is, report_is}
use Rattle.tdsl_tool.proofs.inspection.report_under.Goals as goal

pub returns-in-Ok-report_text-clause-report : goal.returns-in-Ok-report_text-clause-report
returns-in-Ok-report_text-clause-report g c = λ name.
    report_is c.args.settings c.args.rules.now name c.args.bytes.now c.in-Ok.it c.deref.result.now c.told_by.result.text.items c.requires.short c.in-Ok.ensures.found c.deref.ensures.value
    (ap (λ (text : Vec ℕ Global). text.items) c.told_by.ensures.text ∙ c.in-Ok-report_text.ensures.text)

pub returns-in-Ok-report_text-clause-history : goal.returns-in-Ok-report_text-clause-history
returns-in-Ok-report_text-clause-history g c =
    subst (λ (h : Option HistoryView). IsSomeAnd (records_in h) (IsHistoryOf c.args.settings c.args.rules.now c.args.bytes.now)) (sym c.told_by.ensures.history)
    (history_is c.args.settings c.args.rules.now c.args.bytes.now c.in-Ok.it c.in-Ok.ensures.found)

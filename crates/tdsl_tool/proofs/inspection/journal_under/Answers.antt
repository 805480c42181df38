use Rattle.std.proofs.Common.{ℕ, ◌∙◌, Option, sym, ap, subst, IsSomeAnd, Vec, Global}
use Rattle.tx_store.specs.Closed.{HistoryView}
use Rattle.tdsl_tool.specs.Handed.{records_in}
use Rattle.tdsl_tool.specs.Journals.{IsJournalOf}
use Rattle.tdsl_tool.proofs.Journaled.{journal_made}
use Rattle.tdsl_tool.proofs.Reported.{report_made}
use Rattle.tdsl_tool.proofs.inspection.journal_under.Goals as goal

pub sizes_of-sizes-requires : goal.sizes_of-sizes-requires
sizes_of-sizes-requires g c = (c.run_opens_lawful_law.ensures c.args.rules.now c.args.bytes.now c.in-Ok.it.plan c.in-Ok.ensures.found.planned).0

pub returns-in-Ok-journal_text-clause-report : goal.returns-in-Ok-journal_text-clause-report
returns-in-Ok-journal_text-clause-report g c = λ name. report_made c.args.settings c.args.rules.now name c.args.bytes.now c.in-Ok.it c.requires.short c.in-Ok.ensures.found

pub returns-in-Ok-journal_text-clause-journal : goal.returns-in-Ok-journal_text-clause-journal
returns-in-Ok-journal_text-clause-journal g c =
    subst (λ (h : Option HistoryView). IsSomeAnd (records_in h) (λ records. IsJournalOf c.args.settings c.args.rules.now c.args.bytes.now records c.told_by.result.text.items)) (sym c.told_by.ensures.history)
    (journal_made c.args.settings c.args.rules.now c.args.bytes.now c.in-Ok.it c.sizes_of-sizes.result c.records-records.result.now c.told_by.result.text.items c.in-Ok.ensures.found
    c.sizes_of-sizes.ensures c.records-records.ensures.records
    (ap (λ (text : Vec ℕ Global). text.items) c.told_by.ensures.text ∙ c.in-Ok-journal_text.ensures))

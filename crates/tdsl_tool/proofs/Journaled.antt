-- The journal of the workers' run, and the files that it is of.
use Rattle.std.proofs.Common.{◌≡◌, ℕ, List, [], length, Option, None, Some, Result, Ok, Err, refl, ◌∙◌, ap, subst}
use Rattle.std.specs.Prelude.{IfOk, IsSomeAnd}
use Rattle.byte_ends.specs.Told.{IfTold}
use Rattle.command_words.specs.declared.command.Settings.{Settings}
use Rattle.journal_terms.specs.Text.{journal_text}
use Rattle.journal_writer.specs.Journals.{journal_of}
use Rattle.journal_writer.specs.declared.journal.Format.TheVariants.{Records}
use Rattle.journal_writer.specs.declared.journal.Sizes.{Sizes}
use Rattle.report.specs.declared.fault.Fault.{Fault}
use Rattle.rule_terms.specs.Rule.{Rule}
use Rattle.serial_terms.specs.declared.call.Done.{Done}
use Rattle.serial_terms.specs.declared.committed.Record.{Record}
use Rattle.serial_terms.specs.Entries.{Entry}
use Rattle.serial_terms.specs.Histories.{entries_of}
use Rattle.tdsl_tool.specs.Found.{IsInspection}
use Rattle.tdsl_tool.specs.Handed.{IsHistoryOf, IsHistoryUnder, records_of}
use Rattle.tdsl_tool.specs.Journals.{journal_for, IsJournalOf, IsJournalFor}
use Rattle.tdsl_tool.specs.Run.{Reading, IfRulesTold, IfBothTold}
use Rattle.tdsl_tool.specs.Verdict.{reports, AreRules, IsVerdictUnder}
use Rattle.tdsl_tool.specs.declared.inspection.Inspection.{Inspection}
use Rattle.tdsl_tool.specs.declared.made.Made.{Made}
use Rattle.tdsl_tool.proofs.Reported.{history_is}
use Rattle.tdsl_tool.proofs.Verdicts.{comes_to_of, hands_out}

-- the journal that is written of an inspection's records
pub journal_made : (settings : Settings) (rules : List Rule) (bytes : List ℕ) (it : Inspection) (sizes : Sizes) (records : List Record) (text : List ℕ) → IsInspection settings rules bytes it
    → sizes ≡ record { tasks = length it.plan.tasks.items; groups = length it.plan.groups.items; findings = settings.findings } → records ≡ it.outcome.history.records
    → text ≡ journal_text (journal_of sizes records [] Records) → IsJournalOf settings rules bytes (entries_of it.outcome.history.records) text
unfolding history_is
journal_made settings rules bytes it sizes records text is same told text_is = (
  history_is settings rules bytes it is,
  text_is ∙ ap (λ (s : Sizes). journal_text (journal_of s records [] Records)) same
      ∙ ap (λ (rs : List Record). journal_text (journal_for it.plan settings.findings (entries_of rs))) told,
)

module _ (of : Reading) (rules : List Rule) (are : IfRulesTold of (λ text. AreRules text rules)) (bytes : List ℕ) (whole : IfTold of.capture.told (λ told. bytes ≡ told)) where
  -- the journal of a run over the bytes of the file is that of the two files
  journal_of_files : (handed : Option (List (Entry Done))) (text : List ℕ) → ((name : List ℕ) → (report : List ℕ) × IsVerdictUnder of.settings rules name bytes (reports report))
      → IsSomeAnd handed (λ records. IsJournalOf of.settings rules bytes records text) → IsSomeAnd handed (λ records. IsJournalFor of records text)
  journal_of_files None text report is = absurd is
  journal_of_files (Some records) text report is =
      let here = report of.capture.name in
      record {
        report = here.0;
        comes_to = comes_to_of of rules are bytes whole (reports here.0) here.1;
        plan = is.0.plan;
        text_is = is.1;
        run = λ file told here' there. (
          rules,
          are file told,
          subst (λ (b : List ℕ). (run : IsHistoryOf of.settings rules b records) × (run.plan ≡ is.0.plan)) (whole here' there) (is.0, refl),
        );
      }

  pub journal_is : (made : Result Made Fault) → IfOk made (λ m. (name : List ℕ) → (report : List ℕ) × IsVerdictUnder of.settings rules name bytes (reports report))
      → IfOk made (λ m. IsSomeAnd (records_of m) (λ records. IsJournalOf of.settings rules bytes records m.text.items)) → IfOk made (λ m. IsSomeAnd (records_of m) (λ records. IsJournalFor of records m.text.items))
  journal_is (Ok m) report is = journal_of_files (records_of m) m.text.items report is
  journal_is (Err fault) report is = report

  some_history : (handed : Option (List (Entry Done))) (text : List ℕ) → IsSomeAnd handed (λ records. IsJournalOf of.settings rules bytes records text) → IsSomeAnd handed (IsHistoryOf of.settings rules bytes)
  some_history None text is = is
  some_history (Some records) text is = is.0

  pub journal_hands_out : (made : Result Made Fault) → IfOk made (λ m. IsSomeAnd (records_of m) (λ records. IsJournalOf of.settings rules bytes records m.text.items))
      → IfOk made (λ m. IsSomeAnd (records_of m) (λ records. IfBothTold of (λ text told. IsHistoryUnder of.settings text told records)))
  journal_hands_out (Ok m) is = hands_out of rules are bytes whole (records_of m) (some_history (records_of m) m.text.items is)
  journal_hands_out (Err fault) is = is

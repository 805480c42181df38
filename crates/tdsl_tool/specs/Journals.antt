-- The journal that a run writes: that of its workers' records.
use Rattle.std.specs.Prelude.{◌≡◌, ℕ, List, length, None}
use Rattle.capture_terms.specs.declared.plan.Plan.{Plan}
use Rattle.command_words.specs.declared.command.Settings.{Settings}
use Rattle.journal_terms.specs.Text.{Journal, journal_text}
use Rattle.rule_terms.specs.Rule.{Rule}
use Rattle.serial_terms.specs.declared.call.Done.{Done}
use Rattle.serial_terms.specs.Entries.{Entry}
use Rattle.tdsl_tool.specs.Handed.{IsHistoryOf}
use Rattle.tdsl_tool.specs.Run.{Reading, IfBothTold, ComesTo}
use Rattle.tdsl_tool.specs.Verdict.{AreRules, reports}

-- the journal of these records, of a run over a plan whose log may have so many findings: of version 1, which has no sights
abbrev pub journal_for : Plan → ℕ → List (Entry Done) → Journal
journal_for plan findings records = record {
  tasks = length plan.tasks.items;
  groups = length plan.groups.items;
  findings = findings;
  records = records;
  sights = None;
}

-- the records are those of workers over the capture that these bytes are, under these rules, and the text is their journal
abbrev pub IsJournalOf : Settings → List Rule → List ℕ → List (Entry Done) → List ℕ → Type 0
IsJournalOf settings rules bytes records text =
    (is : IsHistoryOf settings rules bytes records) × (text ≡ journal_text (journal_for is.plan settings.findings records))

-- the text is the journal of the records of a run over two files that have a report
pub record IsJournalFor (of : Reading) (records : List (Entry Done)) (text : List ℕ) : Type 0 where
  pub report : List ℕ
  pub comes_to : ComesTo of (reports report)
  pub plan : Plan
  pub text_is : text ≡ journal_text (journal_for plan of.settings.findings records)
  -- the plan is that of the run
  pub run : IfBothTold of (λ file bytes. (rules : List Rule) × AreRules file rules × ((is : IsHistoryOf of.settings rules bytes records) × (is.plan ≡ plan)))

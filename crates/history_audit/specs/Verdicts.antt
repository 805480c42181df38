-- What a verdict says of a text.
use Rattle.std.specs.Prelude.{◌∷◌, ◌≤◌, Some, ◌≡◌, ℕ, ◌+◌, Bool, IsTrue, List, ◌++◌, length, map}
use Rattle.serial_terms.specs.declared.call.Done.{Done}
use Rattle.serial_terms.specs.Entries.{Entry}
use Rattle.serial_terms.specs.Histories.{IsLegalHistory}
use Rattle.serial_terms.specs.Sights.{Seen}
use Rattle.serial_terms.specs.Serial.{State}
use Rattle.journal_terms.specs.Growing.{without_sights}
use Rattle.journal_terms.specs.Legal.{IsLegalJournal, IsFirstBadLine, start_of}
use Rattle.journal_terms.specs.Reading.{cut_at}
use Rattle.journal_terms.specs.Strict.{IsReadableRecord}
use Rattle.journal_terms.specs.Text.{Journal, journal_text, record_text, sights_in}
use Rattle.history_audit.specs.Begun.{records_in}
use Rattle.history_audit.specs.declared.lines.Sizes.{Sizes}
use Rattle.history_audit.specs.declared.verdict.Verdict.{Verdict}
use Rattle.history_audit.specs.declared.verdict.Verdict.TheVariants.{Yes, No}
use Rattle.history_audit.specs.declared.verdict.Outcome.{Outcome}
use Rattle.history_audit.specs.declared.verdict.Outcome.TheVariants.{Judged, Sights}

-- the text is that of a legal journal with so many records and sights
pub record IsLegalWith (text : List ℕ) (records sights : ℕ) : Type 0 where
  pub journal : Journal
  pub legal : IsLegalJournal journal
  pub text_is : journal_text journal ≡ text
  pub records_are : records ≡ length journal.records
  pub sights_are : sights ≡ length (sights_in journal.sights)

abbrev pub IsVerdict : List ℕ → Verdict → Type 0
IsVerdict text (Yes records sights) = IsLegalWith text records sights
IsVerdict text (No line) = IsFirstBadLine text line

-- a journal of these sizes and records, and as yet without sights
abbrev pub with_records : Bool → Sizes → List (Entry Done) → Journal
with_records second s es = record { tasks = s.tasks; groups = s.groups; findings = s.findings; records = es; sights = without_sights second }

-- the lines are those of these records, with which a legal journal begins, and then the others, of which the first has this number
pub record HasRead (second : Bool) (sizes : Sizes) (lines rest : List ℕ) (number : ℕ) (es : List (Entry Done)) : Type 0 where
  pub end : State
  pub legal : IsLegalJournal (with_records second sizes es)
  pub history : IsLegalHistory (start_of (with_records second sizes es)) es end
  pub lines_are : cut_at 10 lines ≡ map record_text es ++ cut_at 10 rest
  pub number_is : number ≡ 3 + length es

-- a journal of these sizes, records and sights
abbrev pub with_sights : Sizes → List (Entry Done) → List (Seen Done) → Journal
with_sights s es vs = record { tasks = s.tasks; groups = s.groups; findings = s.findings; records = es; sights = Some vs }

-- the first line is no record's
abbrev pub IsNoRecord : List ℕ → Type 0
IsNoRecord text = (line : List ℕ) (behind : List (List ℕ)) → cut_at 10 text ≡ line ∷ behind → (e : Entry Done) → IsReadableRecord e → record_text e ≡ line → ⊥

-- the text is judged; or its records are read, and the line behind them is no record's, in a journal that may have sights
abbrev pub IsOutcome : List ℕ → Bool → Sizes → List ℕ → Outcome → Type 0
IsOutcome text second sizes lines (Judged v) = IsVerdict text v
IsOutcome text second sizes lines (Sights rest line) = IsTrue second × HasRead second sizes lines rest.now line (records_in lines) × IsNoRecord rest.now × (line + length rest.now ≤ 3 + length lines)

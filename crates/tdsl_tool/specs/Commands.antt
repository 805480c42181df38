-- What each command makes, and what holds of a run of the program, whichever command its words are.
use Rattle.std.specs.Prelude.{◌≡◌, ◌≢◌, ◌⊎◌, ◌↔◌, ℕ, List, Option, None, IsSomeAnd}
use Rattle.capture_generator.specs.Packets.{generated_capture}
use Rattle.command_words.specs.Words.{Names, Asked, unknown, inspect, journal, audit, make, trial, asked_by}
use Rattle.command_words.specs.declared.command.Settings.{Settings}
use Rattle.report.specs.Fault.{Cause, no_command, no_memory}
use Rattle.serial_terms.specs.Entries.{Entry}
use Rattle.serial_terms.specs.declared.call.Done.{Done}
use Rattle.tdsl_tool.specs.Audit.{IsAuditOf, StopsAtJournal, Audited}
use Rattle.tdsl_tool.specs.Handed.{IsHistoryUnder, IsHistoryOfTrial}
use Rattle.tdsl_tool.specs.Journals.{IsJournalFor}
use Rattle.tdsl_tool.specs.Making.{IsSummary, ReadsNothing}
use Rattle.tdsl_tool.specs.Run.{Folder, Reading, Run, IsRunOf, source, reading, IfBothTold, ComesTo, StopsAt, TellsLine, Inspected}
use Rattle.tdsl_tool.specs.Verdict.{reports}

-- the text is what is asked for, of these files, where these records are handed out
abbrev pub IsOutput : Asked → Folder → Option (List (Entry Done)) → List ℕ → Type 0
IsOutput unknown files handed text = ⊥
IsOutput (inspect names settings) files handed text = ComesTo (reading files names settings) (reports text)
IsOutput (journal names settings) files handed text = IsSomeAnd handed (λ records. IsJournalFor (reading files names settings) records text)
IsOutput (audit name) files handed text = IsAuditOf (source files name) (reports text)
IsOutput (make seed frames) files handed text = text ≡ generated_capture seed frames
IsOutput (trial workers seed frames) files handed text = IsSummary seed frames text

-- this keeps a command from making it. Want of memory is free.
abbrev pub IsStop : Asked → Folder → Cause → Type 0
IsStop unknown files cause = cause ≡ no_command
IsStop (inspect names settings) files cause = StopsAt (reading files names settings) cause
IsStop (journal names settings) files cause = StopsAt (reading files names settings) cause
IsStop (audit name) files cause = StopsAtJournal (source files name) cause
IsStop (make seed frames) files cause = cause ≡ no_memory
IsStop (trial workers seed frames) files cause = cause ≡ no_memory

-- these records are those of workers that inspected the two files, where these are told
abbrev pub IsHistoryFor : Reading → List (Entry Done) → Type 0
IsHistoryFor of records = IfBothTold of (λ text bytes. IsHistoryUnder of.settings text bytes records)

-- these records are handed out with its output: those of its workers, or none where it has no workers
abbrev pub HandsOut : Asked → Folder → Option (List (Entry Done)) → Type 0
HandsOut (inspect names settings) files handed = IsSomeAnd handed (IsHistoryFor (reading files names settings))
HandsOut (journal names settings) files handed = IsSomeAnd handed (IsHistoryFor (reading files names settings))
HandsOut (trial workers seed frames) files handed = IsSomeAnd handed (IsHistoryOfTrial workers seed frames)
HandsOut asked files handed = handed ≡ None

-- the command reads no file
abbrev pub IsAlone : Asked → Type 0
IsAlone (make seed frames) = Unit {0}
IsAlone (trial workers seed frames) = Unit {0}
IsAlone asked = ⊥

-- what holds of a run for these words: what holds of the run of each command, and what holds of each beside
pub record Ran (words : List (List ℕ)) (run : Run) : Type 0 where
  -- 1 comes exactly where the words are no command
  pub usage : (run.status ≡ 1) ↔ (asked_by words ≡ unknown)
  -- then the usage is told, and nothing is written
  pub usage_line : run.status ≡ 1 → TellsLine run.faults no_command × (run.out.after ≡ run.out.before)
  pub ends : IsRunOf (IsOutput (asked_by words) run.files run.history) (IsStop (asked_by words) run.files) run
  pub inspection : (names : Names) (settings : Settings) → asked_by words ≡ inspect names settings → Inspected run (reading run.files names settings)
  -- a journal is written where an inspection of the same files has a report
  pub journal_of : (names : Names) (settings : Settings) → asked_by words ≡ journal names settings → Inspected run (reading run.files names settings)
  pub audit_of : (name : List ℕ) → asked_by words ≡ audit name → Audited run (source run.files name)
  pub alone : IsAlone (asked_by words) → ReadsNothing run
  -- the workers' records are handed out where the output was written or couldn't be, and nowhere else
  pub history : (run.status ≡ 0) ⊎ (run.status ≡ 3) → HandsOut (asked_by words) run.files run.history
  pub no_history : run.status ≢ 0 → run.status ≢ 3 → run.history ≡ None

-- What the audit of a journal comes to, and what holds of a run of it.
use Rattle.std.specs.Prelude.{◌≡◌, ◌≢◌, ◌⊎◌, ℕ, ◌<◌, ◌≤◌, List, length}
use Rattle.byte_ends.specs.Told.{IfTold}
use Rattle.history_audit.specs.Verdicts.{IsLegalWith}
use Rattle.journal_terms.specs.Legal.{IsFirstBadLine, IsLegalText}
use Rattle.report.specs.Audit.{audit_text}
use Rattle.report.specs.Fault.{Cause, long_file, not_legal}
use Rattle.tdsl_tool.specs.Verdict.{Verdict, reports, stops, max_file, verdict_status}
use Rattle.tdsl_tool.specs.Run.{Source, HasFailed, IsFaulty, StopsReading, Run, Exactly}

-- a legal journal is told with its numbers of records and sights, and another text by its first bad line
abbrev pub IsJudged : List ℕ → Verdict → Type 0
IsJudged text (reports told) = (records : ℕ) × ((sights : ℕ) × IsLegalWith text records sights × (told ≡ audit_text records sights))
IsJudged text (stops (not_legal line)) = IsFirstBadLine text line
IsJudged text (stops cause) = ⊥

-- a journal of this name and text comes to this
abbrev pub IsAudit : List ℕ → List ℕ → Verdict → Type 0
IsAudit name text verdict =
    ((max_file < length text) × (verdict ≡ stops (long_file name))) ⊎ ((length text ≤ max_file) × IsJudged text verdict)

-- it does where it is told
abbrev pub IsAuditOf : Source → Verdict → Type 0
IsAuditOf file verdict = IfTold file.told (λ text. IsAudit file.name text verdict)

-- a journal of this name and text comes to a verdict of this status
abbrev pub HasAuditStatus : List ℕ → List ℕ → ℕ → Type 0
HasAuditStatus name text status = (verdict : Verdict) × (verdict_status verdict ≡ status) × IsAudit name text verdict

-- an audit that tells no numbers
abbrev pub StopsAtJournal : Source → Cause → Type 0
StopsAtJournal file (not_legal line) = IsAuditOf file (stops (not_legal line))
StopsAtJournal file cause = StopsReading file cause

-- what holds of the run of an audit beside
pub record Audited (run : Run) (file : Source) : Type 0 where
  -- 2 comes only where calls for the journal failed
  pub read : run.status ≡ 2 → HasFailed file
  -- 9 comes exactly where the journal has a first bad line, and 6 where it is too long
  pub refused : IfTold file.told (λ text. (status : ℕ) → 3 < status → status ≢ 7 → Exactly run.status status (HasAuditStatus file.name text status))
  -- a legal journal is told where no call for it failed, unless memory was wanted
  pub complete : IfTold file.told (λ text. IsLegalText text → length text ≤ max_file → ¬ HasFailed file → ¬ IsFaulty run.out → (run.status ≡ 0) ⊎ (run.status ≡ 7))

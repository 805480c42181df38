-- How a run of the program ends, and what it leaves.
use Rattle.std.specs.Prelude.{◌≡◌, ◌≢◌, ◌⊎◌, ℕ, ◌<◌, List, length, Option, Result, Ok, Err}
use Rattle.byte_ends.specs.Told.{Rose, IfTold, Grows, GrowsByPrefix}
use Rattle.rule_terms.specs.Rule.{Rule}
use Rattle.command_words.specs.Words.{Names}
use Rattle.command_words.specs.declared.command.Settings.{Settings}
use Rattle.report.specs.declared.fault.Fault.{Fault}
use Rattle.report.specs.Fault.{Cause, unread, unwritten, bad_line, bad_capture, long_file, many_frames, many_rules, many_findings, no_memory, cause_of, status_of, line_of}
use Rattle.serial_terms.specs.declared.call.Done.{Done}
use Rattle.serial_terms.specs.Entries.{Entry}
use Rattle.tdsl_tool.specs.declared.made.Made.{Made}
use Rattle.tdsl_tool.specs.Verdict.{Verdict, reports, stops, IsVerdict, IsVerdictUnder, max_file, AreRules, HasBadLine, HasManyRules, rules_refused, IsRuleFile, verdict_status}

-- The files and the sinks of a run.

-- a file that is read: its name, its bytes where these are told, and how often calls for it had failed
-- before and after
pub record Source : Type 0 where
  pub name : List ℕ
  pub told : Option (List ℕ)
  pub before : ℕ
  pub after : ℕ

-- the files of a run by name: their bytes where these are told, and how often calls for each had failed
-- before and after
pub record Folder : Type 0 where
  pub content : List ℕ → Option (List ℕ)
  pub before : List ℕ → ℕ
  pub after : List ℕ → ℕ

abbrev pub folder : (List ℕ → Option (List ℕ)) → (List ℕ → ℕ) → (List ℕ → ℕ) → Folder
folder content before after = record { content = content; before = before; after = after }

-- the file of a name
abbrev pub source : Folder → List ℕ → Source
source files name = record { name = name; told = files.content name; before = files.before name; after = files.after name }

-- calls for the file failed
abbrev pub HasFailed : Source → Type 0
HasFailed file = Rose file.before file.after

-- an inspection: its two files and its settings
pub record Reading : Type 0 where
  pub rules : Source
  pub capture : Source
  pub settings : Settings

abbrev pub reading : Folder → Names → Settings → Reading
reading files names settings = record {
  rules = source files names.rules;
  capture = source files names.capture;
  settings = settings;
}

-- a sink's bytes where these are told, and how often calls of it had failed, before and after
pub record Writing : Type 0 where
  pub before : Option (List ℕ)
  pub after : Option (List ℕ)
  pub faults_before : ℕ
  pub faults_after : ℕ

abbrev pub writing : Option (List ℕ) → Option (List ℕ) → ℕ → ℕ → Writing
writing before after faults_before faults_after =
    record { before = before; after = after; faults_before = faults_before; faults_after = faults_after }

-- calls of the sink failed
abbrev pub IsFaulty : Writing → Type 0
IsFaulty sink = Rose sink.faults_before sink.faults_after

-- What an inspection comes to, where its files are told.

abbrev pub IfRulesTold : Reading → (List ℕ → Type 0) → Type 0
IfRulesTold of Fact = IfTold of.rules.told Fact

abbrev pub IfBothTold : Reading → (List ℕ → List ℕ → Type 0) → Type 0
IfBothTold of Fact = IfRulesTold of (λ text. IfTold of.capture.told (λ bytes. Fact text bytes))

-- the text is one of rules
abbrev pub IsOfRules : List ℕ → Type 0
IsOfRules text = (rules : List Rule) × AreRules text rules

-- files of these bytes come to this verdict
abbrev pub Decides : Reading → List ℕ → List ℕ → Verdict → Type 0
Decides of text bytes verdict = IsVerdict (record { rules = of.rules.name; capture = of.capture.name }) of.settings text bytes verdict

-- the rules stand where they are told, and the two files come to this verdict where they are
pub record ComesTo (of : Reading) (verdict : Verdict) : Type 0 where
  pub rules : IfRulesTold of IsOfRules
  pub verdict_is : IfBothTold of (λ text bytes. Decides of text bytes verdict)

-- files of these bytes come to a verdict of this status
abbrev pub HasStatus : Reading → List ℕ → List ℕ → ℕ → Type 0
HasStatus of text bytes status = (verdict : Verdict) × (verdict_status verdict ≡ status) × Decides of text bytes verdict

-- Why a step gives a fault. Want of memory is free.

-- a file that gives no bytes
abbrev pub StopsReading : Source → Cause → Type 0
StopsReading file (unread name) = (name ≡ file.name) × HasFailed file
StopsReading file (long_file name) = (name ≡ file.name) × IfTold file.told (λ bytes. max_file < length bytes)
StopsReading file no_memory = Unit {0}
StopsReading file cause = ⊥

-- a text that gives no rules
abbrev pub StopsInRules : List ℕ → Cause → Type 0
StopsInRules text (bad_line number) = HasBadLine text number
StopsInRules text many_rules = HasManyRules text
StopsInRules text no_memory = Unit {0}
StopsInRules text cause = ⊥

-- a rule file that gives no rules
abbrev pub StopsAtRules : Source → Cause → Type 0
StopsAtRules file (bad_line number) = IfTold file.told (λ text. HasBadLine text number)
StopsAtRules file many_rules = IfTold file.told HasManyRules
StopsAtRules file cause = StopsReading file cause

-- a capture file of these bytes that gives no report under rules
abbrev pub StopsUnder : Settings → List Rule → List ℕ → List ℕ → Cause → Type 0
StopsUnder settings rules name bytes (bad_capture fault) = IsVerdictUnder settings rules name bytes (stops (bad_capture fault))
StopsUnder settings rules name bytes many_frames = IsVerdictUnder settings rules name bytes (stops many_frames)
StopsUnder settings rules name bytes many_findings = IsVerdictUnder settings rules name bytes (stops many_findings)
StopsUnder settings rules name bytes no_memory = Unit {0}
StopsUnder settings rules name bytes cause = ⊥

-- a capture file behind rules that stand
abbrev pub StopsAtCapture : Reading → Cause → Type 0
StopsAtCapture of (unread name) = (name ≡ of.capture.name) × HasFailed of.capture × IfRulesTold of IsOfRules
StopsAtCapture of (long_file name) = (name ≡ of.capture.name) × ComesTo of (stops (long_file name))
StopsAtCapture of (bad_capture fault) = ComesTo of (stops (bad_capture fault))
StopsAtCapture of many_frames = ComesTo of (stops many_frames)
StopsAtCapture of many_findings = ComesTo of (stops many_findings)
StopsAtCapture of no_memory = Unit {0}
StopsAtCapture of cause = ⊥

-- an inspection that gives no report
abbrev pub StopsAt : Reading → Cause → Type 0
StopsAt of cause = StopsAtRules of.rules cause ⊎ StopsAtCapture of cause

-- How a run ends.

-- with its output written, or with a fault
pub data Ending : Type 0 where
  finished : Ending
  faulted : Cause → Ending

abbrev pub ending_of : {T : Type 0} → Result T Fault → Ending
ending_of (Ok done) = finished
ending_of (Err fault) = faulted (cause_of fault)

abbrev pub ending_status : Ending → ℕ
ending_status finished = 0
ending_status (faulted cause) = status_of cause

-- the sink gained the line of this cause, or a prefix of it where its own count of faults rose
abbrev pub TellsLine : Writing → Cause → Type 0
TellsLine sink cause = Grows sink.before sink.after (line_of cause) ⊎ (IsFaulty sink × GrowsByPrefix sink.before sink.after (line_of cause))

-- nothing is told where the output was written, and one line of a fault
abbrev pub Tells : Writing → Ending → Type 0
Tells sink finished = sink.after ≡ sink.before
Tells sink (faulted cause) = TellsLine sink cause

-- Writing what a command made.

-- what it made: a text, or a fault
abbrev pub outcome_of : Result Made Fault → Verdict
outcome_of (Ok made) = reports made.text.items
outcome_of (Err fault) = stops (cause_of fault)

-- a text was written, or a prefix of it where calls of the sink failed; for a fault nothing was
abbrev pub IsPut : Verdict → Writing → Ending → Type 0
IsPut (reports text) out finished = Grows out.before out.after text
IsPut (reports text) out (faulted unwritten) = GrowsByPrefix out.before out.after text × IsFaulty out
IsPut (reports text) out (faulted other) = ⊥
IsPut (stops cause) out finished = ⊥
IsPut (stops cause) out (faulted other) = (other ≡ cause) × (out.after ≡ out.before)

-- one of these texts was written
abbrev pub IsWritten : (List ℕ → Type 0) → Writing → Type 0
IsWritten Is out = (text : List ℕ) × Is text × Grows out.before out.after text

-- a prefix of one was, and calls of the sink failed
abbrev pub IsCutOff : (List ℕ → Type 0) → Writing → Type 0
IsCutOff Is out = (text : List ℕ) × Is text × GrowsByPrefix out.before out.after text × IsFaulty out

-- why a command that makes these texts, or stops for these causes, ends so, and what it wrote
abbrev pub EndsSo : (List ℕ → Type 0) → (Cause → Type 0) → Writing → Ending → Type 0
EndsSo Is Stops out finished = IsWritten Is out
EndsSo Is Stops out (faulted unwritten) = IsCutOff Is out
EndsSo Is Stops out (faulted cause) = Stops cause × (out.after ≡ out.before)

-- What holds of a run.

-- a run of the program: its files, what became of standard output and standard error, the status, and the
-- records of its workers where they are handed out
pub record Run : Type 0 where
  pub files : Folder
  pub out : Writing
  pub faults : Writing
  pub status : ℕ
  pub history : Option (List (Entry Done))

-- what holds of the run of each command, by the texts that it makes and the causes that it stops for
pub record IsRunOf (Is : List ℕ → Type 0) (Stops : Cause → Type 0) (run : Run) : Type 0 where
  -- with 0 such a text was written, and nothing is told
  pub output : run.status ≡ 0 → IsWritten Is run.out × (run.faults.after ≡ run.faults.before)
  -- 3 comes only where calls of standard output failed, and a prefix of such a text was written
  pub write : run.status ≡ 3 → IsCutOff Is run.out
  -- the status has its cause, and the line on standard error is that of the cause
  pub fault_line : (ending : Ending) × (run.status ≡ ending_status ending) × EndsSo Is Stops run.out ending × Tells run.faults ending
  -- with a status other than 0 and 3 nothing is written
  pub nothing_out : run.status ≢ 0 → run.status ≢ 3 → run.out.after ≡ run.out.before

-- the status is this one, unless memory was wanted or a read failed
abbrev pub EndsBy : ℕ → ℕ → Type 0
EndsBy status wanted = (status ≡ wanted) ⊎ (status ≡ 7) ⊎ (status ≡ 2)

-- the status comes exactly where the fact holds, but for want of memory and failed reads
abbrev pub Exactly : ℕ → ℕ → Type 0 → Type 0
Exactly status wanted Fact = (status ≡ wanted → Fact) × (Fact → EndsBy status wanted)

-- what holds of the run of an inspection beside
pub record Inspected (run : Run) (of : Reading) : Type 0 where
  -- 2 comes only where calls for the rule file failed, or calls for the capture file behind rules that stand
  pub read : run.status ≡ 2 → HasFailed of.rules ⊎ (HasFailed of.capture × IfRulesTold of IsOfRules)
  -- 4 comes only where the rule file isn't too long and has a first bad line
  pub bad_rules : run.status ≡ 4 → IfRulesTold of (λ text. (number : ℕ) × HasBadLine text number)
  -- a rule file that is refused decides the status, whatever the capture file is
  pub refused_rules : IfRulesTold of (λ text. (cause : Cause) → IsRuleFile of.rules.name text (rules_refused cause) → EndsBy run.status (status_of cause))
  -- each other status comes exactly where the two files come to a fault of this status
  pub refused_files : IfBothTold of (λ text bytes. (status : ℕ) → 3 < status → status ≢ 7 → Exactly run.status status (HasStatus of text bytes status))
  -- where there is a report and no call for it failed, it is written, unless memory was wanted
  pub complete : IfBothTold of (λ text bytes. HasStatus of text bytes 0 → ¬ HasFailed of.rules → ¬ HasFailed of.capture → ¬ IsFaulty run.out → (run.status ≡ 0) ⊎ (run.status ≡ 7))

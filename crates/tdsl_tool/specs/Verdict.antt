-- What a rule file and a capture file come to, as their bytes tell: a report, or the cause of a fault.
use Rattle.std.specs.Prelude.{◌≡◌, ℕ, ◌<◌, ◌≤◌, ◌⊎◌, true, false, nat_lt, List, length, if◌then◌else◌}
use Rattle.capture_terms.specs.Capture.{Answer, captured, refused, too_many_frames, IsAnswer, Contents}
use Rattle.pcapng_blocks.specs.Answer.{is_pcapng, IsBlocksAnswer}
use Rattle.rule_terms.specs.Rule.{Rule}
use Rattle.rule_terms.specs.RuleText as rule_text
use Rattle.inspection_terms.specs.Findings.{findings_of_capture}
use Rattle.command_words.specs.Words.{Names}
use Rattle.command_words.specs.declared.command.Settings.{Settings}
use Rattle.report.specs.Fault.{Cause, bad_line, bad_capture, long_file, many_frames, many_rules, many_findings, status_of}
use Rattle.tdsl_tool.specs.Inspection.{report_of}

-- the most bytes that a file may have: 64 MiB
abbrev pub max_file : ℕ
max_file = 67108864

-- The rule file.

-- what a rule file is: rules, or refused
pub data RuleFile : Type 0 where
  rules_are : List Rule → RuleFile
  rules_refused : Cause → RuleFile

-- what the file is by how the reading of its text ends
abbrev pub rule_file_of : rule_text.Reading → RuleFile
rule_file_of (rule_text.list rules) = rules_are rules
rule_file_of (rule_text.bad_line number) = rules_refused (bad_line number)
rule_file_of rule_text.too_many = rules_refused many_rules

-- the reading of this text ends so, and the text is not too long
pub record IsTaken (text : List ℕ) (reading : rule_text.Reading) : Type 0 where
  pub short : length text ≤ max_file
  pub right : rule_text.IsReadingOf text reading

abbrev pub AreRules : List ℕ → List Rule → Type 0
AreRules text rules = IsTaken text (rule_text.list rules)

-- the line of this number is the first bad one
abbrev pub HasBadLine : List ℕ → ℕ → Type 0
HasBadLine text number = IsTaken text (rule_text.bad_line number)

abbrev pub HasManyRules : List ℕ → Type 0
HasManyRules text = IsTaken text rule_text.too_many

-- what a rule file of this name and text is
abbrev pub IsRuleFile : List ℕ → List ℕ → RuleFile → Type 0
IsRuleFile name text file =
    ((max_file < length text) × (file ≡ rules_refused (long_file name)))
    ⊎ ((reading : rule_text.Reading) × IsTaken text reading × (file ≡ rule_file_of reading))

-- The capture file.

-- what a capture file is: a capture, or refused
pub data CaptureFile : Type 0 where
  capture_is : Contents → CaptureFile
  capture_refused : Cause → CaptureFile

-- what the file is by the right answer about its bytes
abbrev pub file_of : Answer → CaptureFile
file_of (captured contents) = capture_is contents
file_of (refused fault) = capture_refused (bad_capture fault)
file_of too_many_frames = capture_refused many_frames

-- the answer about these bytes is right in the format that they begin as
abbrev pub IsAnswerOf : List ℕ → Answer → Type 0
IsAnswerOf bytes answer =
    ((is_pcapng bytes ≡ true) × IsBlocksAnswer bytes answer) ⊎ ((is_pcapng bytes ≡ false) × IsAnswer bytes answer)

-- it is, and they are not too many
pub record IsRead (bytes : List ℕ) (answer : Answer) : Type 0 where
  pub short : length bytes ≤ max_file
  pub right : IsAnswerOf bytes answer

-- what a capture file of this name and these bytes is
abbrev pub IsCaptureFile : List ℕ → List ℕ → CaptureFile → Type 0
IsCaptureFile name bytes file =
    ((max_file < length bytes) × (file ≡ capture_refused (long_file name)))
    ⊎ ((answer : Answer) × IsRead bytes answer × (file ≡ file_of answer))

-- Both.

-- what an inspection comes to
pub data Verdict : Type 0 where
  reports : List ℕ → Verdict
  stops : Cause → Verdict

-- the status that it ends with where nothing fails
abbrev pub verdict_status : Verdict → ℕ
verdict_status (reports text) = 0
verdict_status (stops cause) = status_of cause

-- of rules and a capture that says this, with these settings
unfoldable pub verdict_under : Settings → List Rule → List ℕ → Contents → Verdict
verdict_under settings rules bytes contents =
    if nat_lt settings.findings (length (findings_of_capture rules bytes settings.window contents))
    then stops many_findings
    else reports (report_of rules bytes settings.window contents)

abbrev pub verdict_at : Settings → List Rule → List ℕ → CaptureFile → Verdict
verdict_at settings rules bytes (capture_is contents) = verdict_under settings rules bytes contents
verdict_at settings rules bytes (capture_refused cause) = stops cause

-- the rules come first: a capture is looked at only where they stand
abbrev pub verdict_of : Settings → RuleFile → List ℕ → CaptureFile → Verdict
verdict_of settings (rules_refused cause) bytes file = stops cause
verdict_of settings (rules_are rules) bytes file = verdict_at settings rules bytes file

-- files of these names and bytes come to this, with these settings
pub record IsVerdict (names : Names) (settings : Settings) (text bytes : List ℕ) (verdict : Verdict) : Type 0 where
  pub rules : RuleFile
  pub capture : CaptureFile
  pub rules_is : IsRuleFile names.rules text rules
  pub capture_is : IsCaptureFile names.capture bytes capture
  pub comes_to : verdict ≡ verdict_of settings rules bytes capture

-- rules and a capture file of this name and these bytes come to this
pub record IsVerdictUnder (settings : Settings) (rules : List Rule) (name bytes : List ℕ) (verdict : Verdict) : Type 0 where
  pub capture : CaptureFile
  pub capture_is : IsCaptureFile name bytes capture
  pub comes_to : verdict ≡ verdict_at settings rules bytes capture

-- each capture file has a right answer
abbrev pub SomeAnswerOf : Type 0
SomeAnswerOf = (bytes : List ℕ) → (answer : Answer) × IsAnswerOf bytes answer

-- and only one
abbrev pub AnswerIsOne : Type 0
AnswerIsOne = (bytes : List ℕ) (one two : Answer) → IsAnswerOf bytes one → IsAnswerOf bytes two → one ≡ two

-- a rule file is one thing only
abbrev pub RuleFileIsOne : Type 0
RuleFileIsOne = (name text : List ℕ) (one two : RuleFile) → IsRuleFile name text one → IsRuleFile name text two → one ≡ two

-- two files come to one verdict only
abbrev pub VerdictIsOne : Type 0
VerdictIsOne =
    (names : Names) (settings : Settings) (text bytes : List ℕ) (one two : Verdict)
    → IsVerdict names settings text bytes one → IsVerdict names settings text bytes two → one ≡ two

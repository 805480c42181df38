-- Why a run ends without all of its output: the cause, the line that tells it, and the status. The
-- lines and the statuses are this project's own.
use Rattle.std.specs.Prelude.{ℕ, List, [], ◌∷◌, ◌++◌, codes}
use Rattle.std.specs.Fmt.{decimal}
use Rattle.report.specs.declared.fault.Fault.{Fault}
use Rattle.report.specs.declared.fault.Fault.TheVariants.{Usage, Read, Write, Rules, Capture, LimitFile, LimitFrames, LimitRules, LimitFindings, Memory, NotLegal}
use Rattle.capture_terms.specs.declared.capture.CaptureFault.{CaptureFault}
use Rattle.capture_terms.specs.declared.capture.CaptureFault.TheVariants.{Header, Version, Link, Record, Block, MixedLink, BlockVersion, BlockLink}
use Rattle.report.specs.declared.fault.Detail.{Detail}
use Rattle.report.specs.declared.fault.Detail.TheVariants.{Text, Number, NumberAt}

-- a fault as a plain value, in which a file is told by the bytes of its name
pub data Cause : Type 0 where
  no_command : Cause
  unread : List ℕ → Cause
  unwritten : Cause
  bad_line : ℕ → Cause
  bad_capture : CaptureFault → Cause
  long_file : List ℕ → Cause
  many_frames : Cause
  many_rules : Cause
  many_findings : Cause
  no_memory : Cause
  not_legal : ℕ → Cause

abbrev pub cause_of : Fault → Cause
cause_of Usage = no_command
cause_of (Read name) = unread name.now
cause_of Write = unwritten
cause_of (Rules line) = bad_line line
cause_of (Capture fault) = bad_capture fault
cause_of (LimitFile name) = long_file name.now
cause_of LimitFrames = many_frames
cause_of LimitRules = many_rules
cause_of LimitFindings = many_findings
cause_of Memory = no_memory
cause_of (NotLegal line) = not_legal line

-- the status that the program ends with
abbrev pub status_of : Cause → ℕ
status_of no_command = 1
status_of (unread name) = 2
status_of unwritten = 3
status_of (bad_line line) = 4
status_of (bad_capture fault) = 5
status_of (long_file name) = 6
status_of many_frames = 6
status_of many_rules = 6
status_of many_findings = 6
status_of no_memory = 7
status_of (not_legal line) = 9

abbrev pub number_at : ℕ → ℕ → List ℕ
number_at number at = decimal number ++ codes " at " ++ decimal at

abbrev pub capture_words : CaptureFault → List ℕ
capture_words (Header at) = codes "header at " ++ decimal at
capture_words Version = codes "version at 4"
capture_words (Link number) = codes "link " ++ decimal number ++ codes " at 20"
capture_words (Record at) = codes "record at " ++ decimal at
capture_words (Block at) = codes "block at " ++ decimal at
capture_words (MixedLink at) = codes "mixed link at " ++ decimal at
capture_words (BlockVersion at) = codes "version at " ++ decimal at
capture_words (BlockLink number at) = codes "link " ++ number_at number at

-- what is told of it
abbrev pub words_of : Cause → List ℕ
words_of no_command = codes "usage: inspect|journal [--workers N] [--findings N] [--window N] RULES CAPTURE | make SEED FRAMES | trial [--workers N] SEED FRAMES | audit JOURNAL"
words_of (unread name) = codes "read fault: " ++ name
words_of unwritten = codes "write fault"
words_of (bad_line line) = codes "bad rules: line " ++ decimal line
words_of (bad_capture fault) = codes "bad capture: " ++ capture_words fault
words_of (long_file name) = codes "limit: file " ++ name
words_of many_frames = codes "limit: frames"
words_of many_rules = codes "limit: rules"
words_of many_findings = codes "limit: findings"
words_of no_memory = codes "want of memory"
words_of (not_legal line) = codes "not legal: line " ++ decimal line

-- its line, with the line feed
abbrev pub line_of : Cause → List ℕ
line_of cause = words_of cause ++ 10 ∷ []

abbrev pub detail_bytes : Detail → List ℕ
detail_bytes (Text bytes) = bytes.now
detail_bytes (Number number) = decimal number
detail_bytes (NumberAt number at) = number_at number at

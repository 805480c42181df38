-- What the parts of a run find, put together.
use Rattle.std.proofs.Common.{◌≡◌, inl, inr, ℕ, ◌≤◌, List, length, Option, None, Some, refl, sym, subst}
use Rattle.std.specs.Prelude.{IfSome, IsSomeAnd}
use Rattle.byte_ends.specs.Told.{IfTold}
use Rattle.capture_terms.specs.Capture.{Answer}
use Rattle.rule_terms.specs.Rule.{Rule}
use Rattle.rule_terms.specs.RuleText as rule_text
use Rattle.report.specs.Fault.{Cause, no_command, unread, unwritten, bad_line, bad_capture, long_file, many_frames, many_rules, many_findings, no_memory, not_legal}
use Rattle.command_words.specs.declared.command.Settings.{Settings}
use Rattle.serial_terms.specs.Entries.{Entry}
use Rattle.serial_terms.specs.declared.call.Done.{Done}
use Rattle.tdsl_tool.specs.Handed.{IsHistoryOf, IsHistoryUnder}
use Rattle.tdsl_tool.specs.Verdict.{max_file, IsAnswerOf, Verdict, stops, IsVerdictUnder, rules_are, AreRules, capture_refused, file_of}
use Rattle.tdsl_tool.specs.Run.{Source, HasFailed, Reading, IfRulesTold, IfBothTold, ComesTo, StopsReading, StopsAtRules, StopsAtCapture, StopsUnder}

-- a capture file whose answer is a refusal comes to it
pub refused_under : (settings : Settings) (rules : List Rule) (name bytes : List ℕ) (told : Option Answer) (answer : Answer) (cause : Cause) → told ≡ Some answer → file_of answer ≡ capture_refused cause → length bytes ≤ max_file → IfSome told (IsAnswerOf bytes) → IsVerdictUnder settings rules name bytes (stops cause)
refused_under settings rules name bytes told answer cause same is short right = record {
  capture = capture_refused cause;
  capture_is = inr (answer, record { short = short; right = subst (λ (o : Option Answer). IfSome o (IsAnswerOf bytes)) same right }, sym is);
  comes_to = refl;
}

-- a file that gave no bytes gives no rules
pub stops_at_rules : (file : Source) (cause : Cause) → StopsReading file cause → StopsAtRules file cause
stops_at_rules file (bad_line number) why = absurd why
stops_at_rules file many_rules why = absurd why
stops_at_rules file cause why = why

module _ (of : Reading) (rules : List Rule) (are : IfRulesTold of (λ text. AreRules text rules)) where
  -- what rules and the capture file come to is what the two files come to
  pub comes_to : (verdict : Verdict) → ((bytes : List ℕ) → of.capture.told ≡ Some bytes → IsVerdictUnder of.settings rules of.capture.name bytes verdict) → ComesTo of verdict
  comes_to verdict under = record {
    rules = λ text told. (rules, are text told);
    verdict_is = λ text told bytes told'.
        let here = under bytes told' in
        record { rules = rules_are rules; capture = here.capture; rules_is = inr (rule_text.list rules, are text told, refl); capture_is = here.capture_is; comes_to = here.comes_to };
  }

  -- a capture file that gives no bytes
  pub stops_unread : (file : Source) → file.name ≡ of.capture.name → file.told ≡ of.capture.told → (HasFailed file → HasFailed of.capture) → (cause : Cause) → StopsReading file cause → StopsAtCapture of cause
  stops_unread file name told failed (unread n) why = (cc, failed why.1, λ text is. (rules, are text is))
  stops_unread file name told failed (long_file n) why =
      let same : n ≡ of.capture.name = cc in (
        same,
        comes_to _ (λ bytes is. record {
          capture = capture_refused (long_file n);
          capture_is = inl (why.1 bytes (cc), cc);
          comes_to = refl;
        }),
      )
  stops_unread file name told failed no_memory why = why
  stops_unread file name told failed no_command why = absurd why
  stops_unread file name told failed unwritten why = absurd why
  stops_unread file name told failed (bad_line n) why = absurd why
  stops_unread file name told failed (bad_capture n) why = absurd why
  stops_unread file name told failed many_frames why = absurd why
  stops_unread file name told failed many_rules why = absurd why
  stops_unread file name told failed many_findings why = absurd why
  stops_unread file name told failed (not_legal n) why = absurd why

  module _ (bytes : List ℕ) (whole : IfTold of.capture.told (λ told. bytes ≡ told)) where
    -- of bytes that are those of the file
    pub comes_to_of : (verdict : Verdict) → IsVerdictUnder of.settings rules of.capture.name bytes verdict → ComesTo of verdict
    comes_to_of verdict under = comes_to verdict (λ told is. subst (λ (b : List ℕ). IsVerdictUnder of.settings rules of.capture.name b verdict) (whole told is) under)

    -- the records of workers over them are those of a run over the two files
    pub hands_out : (handed : Option (List (Entry Done))) → IsSomeAnd handed (IsHistoryOf of.settings rules bytes) → IsSomeAnd handed (λ records. IfBothTold of (λ text told. IsHistoryUnder of.settings text told records))
    hands_out None is = absurd is
    hands_out (Some records) is = λ text told file told'. (rules, are text told, subst (λ (b : List ℕ). IsHistoryOf of.settings rules b records) (whole file told') is)

    -- an inspection that stops is a run that stops
    pub stops_at : (cause : Cause) → StopsUnder of.settings rules of.capture.name bytes cause → StopsAtCapture of cause
    stops_at (bad_capture fault) why = comes_to_of _ why
    stops_at many_frames why = comes_to_of _ why
    stops_at many_findings why = comes_to_of _ why
    stops_at no_memory why = why
    stops_at (unread name) why = absurd why
    stops_at (long_file name) why = absurd why
    stops_at cause why = absurd why

-- What holds of the run of an inspection, from how it ended.
use Rattle.std.proofs.Common.{◌≡◌, ◌≢◌, ◌⊎◌, inl, inr, ℕ, ◌<◌, List, length, Some, refl, sym, ◌∙◌, ap, subst, arith}
use Rattle.std.proofs.lemmas.Bool.{cases_lt}
use Rattle.rule_terms.specs.Rule.{Rule}
use Rattle.rule_terms.specs.RuleText as rule_text
use Rattle.report.specs.Fault.{Cause, unread, unwritten, bad_line, bad_capture, long_file, many_frames, many_rules, many_findings, no_memory, status_of}
use Rattle.tdsl_tool.specs.Verdict.{max_file, reports, stops, RuleFile, rules_are, rules_refused, HasBadLine, HasManyRules, IsRuleFile, RuleFileIsOne, CaptureFile, IsCaptureFile, SomeAnswerOf, VerdictIsOne, verdict_status}
use Rattle.tdsl_tool.specs.Run.{Reading, Writing, HasFailed, IsFaulty, Run, ComesTo, EndsBy, Exactly, HasStatus, Decides, Inspected, IsOfRules, IfRulesTold, StopsAtRules, StopsAtCapture, StopsAt, Ending, finished, faulted, ending_status, EndsSo}
use Rattle.tdsl_tool.proofs.Ended.{write_cause}

-- each capture file is something
some_capture_file : SomeAnswerOf → (name bytes : List ℕ) → (file : CaptureFile) × IsCaptureFile name bytes file
some_capture_file law name bytes =
    elim (cases_lt max_file (length bytes)) [
      | inl long ↦ (_, inl (long, refl))
      | inr short ↦ (_, inr ((law bytes).0, record { short = short; right = (law bytes).1 }, refl))
    ]

-- a rule file that is too long, one with a bad line, and one with too many rules
is_long_file : (name text file : List ℕ) → file ≡ name → max_file < length text → IsRuleFile name text (rules_refused (long_file file))
is_long_file name text file same long = inl (long, ap (λ (n : List ℕ). rules_refused (long_file n)) same)

is_bad : (name text : List ℕ) (number : ℕ) → HasBadLine text number → IsRuleFile name text (rules_refused (bad_line number))
is_bad name text number is = inr (rule_text.bad_line number, is, refl)

is_many : (name text : List ℕ) → HasManyRules text → IsRuleFile name text (rules_refused many_rules)
is_many name text is = inr (rule_text.too_many, is, refl)

not_both : (rules : List Rule) (cause : Cause) → rules_are rules ≡ rules_refused cause → ⊥
not_both rules cause same = cc

-- the status that a refused rule file gives
abbrev rule_status : RuleFile → ℕ
rule_status (rules_are rules) = 0
rule_status (rules_refused cause) = status_of cause

-- the status of the verdict that an ending follows from: a report that wasn't written counts as one
abbrev pub decided : Ending → ℕ
decided (faulted unwritten) = 0
decided ending = ending_status ending

pub decided_is : (ending : Ending) → ((ending_status ending ≡ 3) × (decided ending ≡ 0)) ⊎ (decided ending ≡ ending_status ending)
decided_is finished = inr refl
decided_is (faulted unwritten) = inl (refl, refl)
decided_is (faulted cause) = inr refl

-- want of memory, or a failed read
abbrev pub IsFree : ℕ → Type 0
IsFree status = (status ≡ 7) ⊎ (status ≡ 2)

-- the two files have a report
abbrev pub HasReport : Reading → Type 0
HasReport of = (report : List ℕ) × ComesTo of (reports report)

-- how an inspection ends, whatever it writes of a report
abbrev pub Ends : Reading → Writing → Ending → Type 0
Ends of out ending = EndsSo (λ text. HasReport of) (StopsAt of) out ending

module _ (of : Reading) (out : Writing) where
  -- why an ending of each status comes

  read_cause : (ending : Ending) → Ends of out ending → ending_status ending ≡ 2 → HasFailed of.rules ⊎ (HasFailed of.capture × IfRulesTold of IsOfRules)
  read_cause (faulted (unread name)) ends is = elim ends.0 [ inl at ↦ inl at.1 | inr at ↦ inr (at.1, at.2) ]
  read_cause finished ends is = absurd (omega arith)
  read_cause (faulted cause) ends is = absurd (omega arith)

  bad_cause : (ending : Ending) → Ends of out ending → ending_status ending ≡ 4 → IfRulesTold of (λ text. (number : ℕ) × HasBadLine text number)
  bad_cause (faulted (bad_line number)) ends is = elim ends.0 [ inl at ↦ (λ text told. (number, at text told)) | inr at ↦ absurd at ]
  bad_cause finished ends is = absurd (omega arith)
  bad_cause (faulted cause) ends is = absurd (omega arith)

module _ (one : VerdictIsOne) (some : SomeAnswerOf) (of : Reading) (out : Writing) where
  module _ (text bytes : List ℕ) (told : of.rules.told ≡ Some text) (told' : of.capture.told ≡ Some bytes) where
    -- a rule file that is refused decides, whatever the capture file is
    by_rules : (cause : Cause) → IsRuleFile of.rules.name text (rules_refused cause) → Decides of text bytes (stops cause)
    by_rules cause refused =
        let file = some_capture_file some of.capture.name bytes in
        record { rules = rules_refused cause; capture = file.0; rules_is = refused; capture_is = file.1; comes_to = refl }

    -- a step that stops follows from a verdict of the told files, but for failed reads and want of memory
    rules_found : (cause : Cause) → StopsAtRules of.rules cause → IsFree (status_of cause) ⊎ HasStatus of text bytes (status_of cause)
    rules_found (unread name) why = inl (inr refl)
    rules_found no_memory why = inl (inl refl)
    rules_found (long_file name) why = inr (stops (long_file name), refl, by_rules (long_file name) (is_long_file of.rules.name text name why.0 (why.1 text told)))
    rules_found (bad_line number) why = inr (stops (bad_line number), refl, by_rules (bad_line number) (is_bad of.rules.name text number (why text told)))
    rules_found many_rules why = inr (stops many_rules, refl, by_rules many_rules (is_many of.rules.name text (why text told)))
    rules_found cause why = absurd why

    capture_found : (cause : Cause) → StopsAtCapture of cause → IsFree (status_of cause) ⊎ HasStatus of text bytes (status_of cause)
    capture_found (unread name) why = inl (inr refl)
    capture_found no_memory why = inl (inl refl)
    capture_found (long_file name) why = inr (_, refl, why.1.verdict_is text told bytes told')
    capture_found (bad_capture fault) why = inr (_, refl, why.verdict_is text told bytes told')
    capture_found many_frames why = inr (_, refl, why.verdict_is text told bytes told')
    capture_found many_findings why = inr (_, refl, why.verdict_is text told bytes told')
    capture_found cause why = absurd why

    stop_found : (cause : Cause) → StopsAt of cause → IsFree (status_of cause) ⊎ HasStatus of text bytes (status_of cause)
    stop_found cause (inl why) = rules_found cause why
    stop_found cause (inr why) = capture_found cause why

    -- and so does an ending
    verdict_found : (ending : Ending) → Ends of out ending → IsFree (ending_status ending) ⊎ HasStatus of text bytes (decided ending)
    verdict_found finished ends = inr (reports ends.1.0, refl, ends.1.1.verdict_is text told bytes told')
    verdict_found (faulted unwritten) ends = inr (reports ends.1.0, refl, ends.1.1.verdict_is text told bytes told')
    verdict_found (faulted cause) ends = stop_found cause ends.0

    -- so its status is that of the one verdict
    found_status : (ending : Ending) (status : ℕ) → Ends of out ending → HasStatus of text bytes status → IsFree (ending_status ending) ⊎ (decided ending ≡ status)
    found_status ending status ends has =
        elim (verdict_found ending ends) [
          | inl other ↦ inl other
          | inr found ↦ inr (sym found.1 ∙ ap verdict_status (one (record { rules = of.rules.name; capture = of.capture.name }) of.settings text bytes found.0 has.0 found.2 has.2) ∙ has.1)
        ]

    -- a status other than 0, 2, 3 and 7 comes exactly where the verdict has it
    exactly : (ending : Ending) (status wanted : ℕ) → Ends of out ending → status ≡ ending_status ending → 3 < wanted → wanted ≢ 7 → Exactly status wanted (HasStatus of text bytes wanted)
    exactly ending status wanted ends is low high = (only, back)
      where
        only : status ≡ wanted → HasStatus of text bytes wanted
        only same =
            elim (verdict_found ending ends) [
              | inl (inl seven) ↦ absurd (high (sym same ∙ is ∙ seven))
              | inl (inr two) ↦ absurd (omega arith)
              | inr found ↦ elim (decided_is ending) [
                | inl other ↦ absurd (omega arith)
                | inr equal ↦ subst (λ (n : ℕ). HasStatus of text bytes n) (equal ∙ sym is ∙ same) found
              ]
            ]

        back : HasStatus of text bytes wanted → EndsBy status wanted
        back has =
            elim (found_status ending wanted ends has) [
              | inl (inl seven) ↦ inr (inl (is ∙ seven))
              | inl (inr two) ↦ inr (inr (is ∙ two))
              | inr found ↦ elim (decided_is ending) [
                | inl other ↦ absurd (omega arith)
                | inr equal ↦ inl (is ∙ sym equal ∙ found)
              ]
            ]

    -- a report is written where nothing fails
    written : (ending : Ending) (status : ℕ) → Ends of out ending → status ≡ ending_status ending → HasStatus of text bytes 0 → ¬ HasFailed of.rules → ¬ HasFailed of.capture → ¬ IsFaulty out → (status ≡ 0) ⊎ (status ≡ 7)
    written ending status ends is has rules_read capture_read out_written =
        elim (found_status ending 0 ends has) [
          | inl (inl seven) ↦ inr (is ∙ seven)
          | inl (inr two) ↦ elim (read_cause of out ending ends two) [ inl failed ↦ absurd (rules_read failed) | inr failed ↦ absurd (capture_read failed.0) ]
          | inr found ↦ elim (decided_is ending) [
            | inl other ↦ absurd (out_written (write_cause (λ text. HasReport of) (StopsAt of) out ending ends other.0).3)
            | inr equal ↦ inl (is ∙ sym equal ∙ found)
          ]
        ]

  module _ (text : List ℕ) (told : of.rules.told ≡ Some text) where
    -- rules, or want of memory or a failed read, or the refusal that an ending tells
    abbrev IsRulesBy : Cause → Type 0
    IsRulesBy cause = IsOfRules text ⊎ IsFree (status_of cause) ⊎ IsRuleFile of.rules.name text (rules_refused cause)

    rules_by_rules : (cause : Cause) → StopsAtRules of.rules cause → IsRulesBy cause
    rules_by_rules (unread name) why = inr (inl (inr refl))
    rules_by_rules no_memory why = inr (inl (inl refl))
    rules_by_rules (long_file name) why = inr (inr (is_long_file of.rules.name text name why.0 (why.1 text told)))
    rules_by_rules (bad_line number) why = inr (inr (is_bad of.rules.name text number (why text told)))
    rules_by_rules many_rules why = inr (inr (is_many of.rules.name text (why text told)))
    rules_by_rules cause why = absurd why

    rules_by_capture : (cause : Cause) → StopsAtCapture of cause → IsRulesBy cause
    rules_by_capture (unread name) why = inr (inl (inr refl))
    rules_by_capture no_memory why = inr (inl (inl refl))
    rules_by_capture (long_file name) why = inl (why.1.rules text told)
    rules_by_capture (bad_capture fault) why = inl (why.rules text told)
    rules_by_capture many_frames why = inl (why.rules text told)
    rules_by_capture many_findings why = inl (why.rules text told)
    rules_by_capture cause why = absurd why

    rules_by : (cause : Cause) → StopsAt of cause → IsRulesBy cause
    rules_by cause (inl why) = rules_by_rules cause why
    rules_by cause (inr why) = rules_by_capture cause why

    rules_by_ending : (ending : Ending) → Ends of out ending → IsOfRules text ⊎ IsFree (ending_status ending) ⊎ ((cause : Cause) × (ending_status ending ≡ status_of cause) × IsRuleFile of.rules.name text (rules_refused cause))
    rules_by_ending finished ends = inl (ends.1.1.rules text told)
    rules_by_ending (faulted unwritten) ends = inl (ends.1.1.rules text told)
    rules_by_ending (faulted cause) ends =
        elim (rules_by cause ends.0) [
          | inl are ↦ inl are
          | inr (inl other) ↦ inr (inl other)
          | inr (inr refused) ↦ inr (inr (cause, refl, refused))
        ]

    -- a rule file that is refused ends the run
    refused_ends : RuleFileIsOne → (ending : Ending) (status : ℕ) → Ends of out ending → status ≡ ending_status ending → (cause : Cause) → IsRuleFile of.rules.name text (rules_refused cause) → EndsBy status (status_of cause)
    refused_ends one_file ending status ends is cause refused =
        elim (rules_by_ending ending ends) [
          | inl are ↦ absurd (not_both _ cause (one_file of.rules.name text (rules_are are.0) (rules_refused cause) (inr (rule_text.list are.0, are.1, refl)) refused))
          | inr (inl (inl seven)) ↦ inr (inl (is ∙ seven))
          | inr (inl (inr two)) ↦ inr (inr (is ∙ two))
          | inr (inr by) ↦ inl (is ∙ by.1 ∙ ap rule_status (one_file of.rules.name text (rules_refused by.0) (rules_refused cause) by.2 refused))
        ]

-- the run of an inspection
pub inspected : VerdictIsOne → RuleFileIsOne → SomeAnswerOf → (run : Run) (of : Reading) (ending : Ending) → run.status ≡ ending_status ending → Ends of run.out ending → Inspected run of
inspected one one_file some run of ending is ends = record {
  read = λ two. read_cause of run.out ending ends (sym is ∙ two);
  bad_rules = λ four. bad_cause of run.out ending ends (sym is ∙ four);
  refused_rules = λ text told. refused_ends one some of run.out text told one_file ending run.status ends is;
  refused_files = λ text told bytes told' status. exactly one some of run.out text bytes told told' ending run.status status ends is;
  complete = λ text told bytes told'. written one some of run.out text bytes told told' ending run.status ends is;
}

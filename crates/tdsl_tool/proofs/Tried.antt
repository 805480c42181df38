-- A trial: its rules and its capture are read, and it stops for want of memory alone.
use Rattle.std.proofs.Common.{◌≡◌, inr, ℕ, ◌≤◌, false, List, [], length, refl, ◌∙◌, ap, subst, arith}
use Rattle.capture_terms.specs.Capture.{Contents, captured, contents_of}
use Rattle.capture_terms.specs.Numbers.{number32}
use Rattle.capture_terms.specs.declared.datagram.Class.{Class}
use Rattle.capture_terms.specs.declared.plan.Group.{Group}
use Rattle.capture_generator.specs.Packets.{generated_capture}
use Rattle.capture_generator.specs.Reading.{IsReadAs}
use Rattle.capture_generator.specs.TrialRules.{trial_text, trial_list}
use Rattle.pcapng_blocks.specs.Answer.{is_pcapng}
use Rattle.inspection_terms.specs.Findings.{findings_of_capture}
use Rattle.rule_terms.specs.Rule.{Rule}
use Rattle.rule_terms.specs.RuleText as rule_text
use Rattle.report.specs.Fault.{Cause, bad_line, bad_capture, many_frames, many_rules, many_findings, no_memory}
use Rattle.report.specs.Report.{text_of}
use Rattle.report.specs.Summary.{summary_lines}
use Rattle.serial_terms.specs.Histories.{entries_of}
use Rattle.tdsl_tool.specs.Found.{IsInspection}
use Rattle.tdsl_tool.specs.Inspection.{report_of, summary_of}
use Rattle.tdsl_tool.specs.Handed.{IsHistoryOfTrial}
use Rattle.tdsl_tool.specs.Making.{trial_settings, IsSummary}
use Rattle.tdsl_tool.specs.Run.{StopsInRules, StopsUnder}
use Rattle.tdsl_tool.specs.Verdict.{max_file, IsAnswerOf, AnswerIsOne, file_of, rules_are, rules_refused, AreRules, IsRuleFile, RuleFileIsOne, Verdict, reports, stops, IsVerdict, IsVerdictUnder, VerdictIsOne}
use Rattle.tdsl_tool.specs.declared.inspection.Inspection.{Inspection}
use Rattle.tdsl_tool.proofs.FewFindings.{three_a_frame}
use Rattle.tdsl_tool.proofs.Reported.{history_is, under_few, told_of}

-- The rules.

module _ (law : rule_text.IsRuleText trial_text trial_list) where
  are_taken : AreRules trial_text trial_list
  are_taken = record { short = omega arith; right = law }

  they_are : IsRuleFile [] trial_text (rules_are trial_list)
  they_are = inr (rule_text.list trial_list, are_taken, refl)

  module _ (one : RuleFileIsOne) where
    none_refused : (cause : Cause) → IsRuleFile [] trial_text (rules_refused cause) → ⊥
    none_refused cause refused =
        let same : rules_are trial_list ≡ rules_refused cause = one [] trial_text (rules_are trial_list) (rules_refused cause) they_are refused in
        absurd (cc)

    pub rules_stop : (text : List ℕ) (cause : Cause) → text ≡ trial_text → StopsInRules text cause → cause ≡ no_memory
    rules_stop text cause same why = by_cause cause (subst (λ (t : List ℕ). StopsInRules t cause) same why)
      where
        by_cause : (cause : Cause) → StopsInRules trial_text cause → cause ≡ no_memory
        by_cause no_memory why = refl
        by_cause (bad_line number) why = absurd (none_refused (bad_line number) (inr (rule_text.bad_line number, why, refl)))
        by_cause many_rules why = absurd (none_refused many_rules (inr (rule_text.too_many, why, refl)))
        by_cause cause why = absurd why

    pub rules_same : (text : List ℕ) (rules : List Rule) → text ≡ trial_text → AreRules text rules → rules ≡ trial_list
    rules_same text rules same are =
        let here : AreRules trial_text rules = subst (λ (t : List ℕ). AreRules t rules) same are in
        let equal : rules_are rules ≡ rules_are trial_list = one [] trial_text (rules_are rules) (rules_are trial_list) (inr (rule_text.list rules, here, refl)) they_are in
        cc

-- The capture, and its summary.

-- the text of these
abbrev summary_from : ℕ → ℕ → Contents → List Class → List Group → ℕ → List ℕ → List ℕ
summary_from seed frames contents classes groups open_groups findings = text_of (summary_lines seed frames contents classes groups open_groups findings)

module _ (workers seed frames : ℕ) (few : frames ≤ 262144) (contents : Contents) (read : IsReadAs seed frames contents) where
  not_pcapng : is_pcapng (generated_capture seed frames) ≡ false
  unfolding generated_capture number32
  not_pcapng = refl

  right : IsAnswerOf (generated_capture seed frames) (captured contents)
  right = inr (not_pcapng, read.says)

  contents_same : AnswerIsOne → (others : Contents) → IsAnswerOf (generated_capture seed frames) (captured others) → contents ≡ others
  contents_same one others says =
      let equal : captured contents ≡ captured others = one (generated_capture seed frames) (captured contents) (captured others) right says in
      cc

  module _ (short : length (generated_capture seed frames) ≤ max_file) (law : rule_text.IsRuleText trial_text trial_list) (one : VerdictIsOne) where
    -- of the two files, if files they were
    of_files : (verdict : Verdict) → IsVerdictUnder (trial_settings workers) trial_list [] (generated_capture seed frames) verdict → IsVerdict (record { rules = []; capture = [] }) (trial_settings workers) trial_text (generated_capture seed frames) verdict
    of_files verdict under = record { rules = rules_are trial_list; capture = under.capture; rules_is = they_are law; capture_is = under.capture_is; comes_to = under.comes_to }

    few_found : length (findings_of_capture trial_list (generated_capture seed frames) 30 contents) ≤ 1048576
    few_found = omega (arith, three_a_frame trial_list (generated_capture seed frames) 30 contents (omega arith), read.count, few)

    reported : IsVerdictUnder (trial_settings workers) trial_list [] (generated_capture seed frames) (reports (report_of trial_list (generated_capture seed frames) 30 contents))
    reported = record {
      capture = file_of (captured contents);
      capture_is = inr (captured contents, record { short = short; right = right }, refl);
      comes_to = under_few (trial_settings workers) trial_list (generated_capture seed frames) contents few_found;
    }

    none_stops : (cause : Cause) → IsVerdictUnder (trial_settings workers) trial_list [] (generated_capture seed frames) (stops cause) → ⊥
    none_stops cause under =
        let same = one (record { rules = []; capture = [] }) (trial_settings workers) trial_text (generated_capture seed frames) _ _ (of_files _ reported) (of_files (stops cause) under) in
        absurd (cc)

    stop_is : (cause : Cause) → StopsUnder (trial_settings workers) trial_list [] (generated_capture seed frames) cause → cause ≡ no_memory
    stop_is no_memory why = refl
    stop_is (bad_capture fault) why = absurd (none_stops (bad_capture fault) why)
    stop_is many_frames why = absurd (none_stops many_frames why)
    stop_is many_findings why = absurd (none_stops many_findings why)
    stop_is cause why = absurd why

  module _ (rules : List Rule) (bytes : List ℕ) (rules_are : rules ≡ trial_list) (bytes_are : bytes ≡ generated_capture seed frames) where
    pub capture_stop : rule_text.IsRuleText trial_text trial_list → VerdictIsOne → length bytes ≤ max_file → (cause : Cause) → StopsUnder (trial_settings workers) rules [] bytes cause → cause ≡ no_memory
    capture_stop law one short cause why =
        let short_too : length (generated_capture seed frames) ≤ max_file = omega (arith, short, ap (length {A = ℕ}) bytes_are) in
        let of_rules : StopsUnder (trial_settings workers) trial_list [] bytes cause = subst (λ (r : List Rule). StopsUnder (trial_settings workers) r [] bytes cause) rules_are why in
        stop_is short_too law one cause (subst (λ (b : List ℕ). StopsUnder (trial_settings workers) trial_list [] b cause) bytes_are of_rules)

    -- what was found is found by a trial
    of_trial : (it : Inspection) → IsInspection (trial_settings workers) rules bytes it → IsInspection (trial_settings workers) trial_list (generated_capture seed frames) it
    of_trial it is =
        let of_rules : IsInspection (trial_settings workers) trial_list bytes it = subst (λ (r : List Rule). IsInspection (trial_settings workers) r bytes it) rules_are is in
        subst (λ (b : List ℕ). IsInspection (trial_settings workers) trial_list b it) bytes_are of_rules

    pub trial_history : (it : Inspection) → IsInspection (trial_settings workers) rules bytes it → IsHistoryOfTrial workers seed frames (entries_of it.outcome.history.records)
    trial_history it is = history_is (trial_settings workers) trial_list (generated_capture seed frames) it (of_trial it is)

    -- the text that is made of it is the summary
    pub summary_is : AnswerIsOne → (it : Inspection) (findings text : List ℕ) → IsInspection (trial_settings workers) rules bytes it → findings ≡ it.outcome.findings.items
        → text ≡ summary_from seed frames (contents_of it.capture) it.plan.classes.items it.plan.groups.items it.outcome.incomplete findings → IsSummary seed frames text
    unfolding summary_of
    summary_is one it findings text is found text_is =
        let here = of_trial it is in (
          contents_of it.capture,
          subst (λ (c : Contents). IsReadAs seed frames c) (contents_same one (contents_of it.capture) here.says) read,
          text_is
              ∙ ap (summary_from seed frames (contents_of it.capture) it.plan.classes.items it.plan.groups.items it.outcome.incomplete) found
              ∙ told_of (summary_from seed frames) (trial_settings workers) trial_list (generated_capture seed frames) it here,
        )

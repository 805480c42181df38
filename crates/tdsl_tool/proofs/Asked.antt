-- What holds of a run of the program, whichever command its words are.
use Rattle.std.proofs.Common.{◌≡◌, inl, inr, ℕ, List, Result, Ok, Err, refl, sym, ◌∙◌, ap, subst, arith}
use Rattle.std.specs.Prelude.{◌≢◌, ◌⊎◌, IfOk, IfErr, Option, None, Some, IsSomeAnd}
use Rattle.journal_terms.specs.Legal.{FirstBadLines}
use Rattle.command_words.specs.Words.{Names, Asked, unknown, inspect, journal, audit, make, trial, asked_by}
use Rattle.command_words.specs.declared.command.Settings.{Settings}
use Rattle.report.specs.declared.fault.Fault.{Fault}
use Rattle.report.specs.Fault.{Cause, no_command, unwritten, no_memory, cause_of, status_of}
use Rattle.tdsl_tool.specs.Commands.{IsOutput, IsStop, IsAlone, HandsOut, Ran}
use Rattle.serial_terms.specs.Entries.{Entry}
use Rattle.serial_terms.specs.declared.call.Done.{Done}
use Rattle.tdsl_tool.specs.Handed.{records_of, records_made}
use Rattle.tdsl_tool.specs.Journals.{IsJournalFor}
use Rattle.tdsl_tool.specs.Making.{ReadsNothing}
use Rattle.tdsl_tool.specs.declared.made.Made.{Made}
use Rattle.tdsl_tool.specs.Run.{Folder, Reading, Writing, Run, source, reading, Ending, finished, faulted, ending_status, Tells, TellsLine, outcome_of, IsPut, EndsSo, Inspected}
use Rattle.tdsl_tool.specs.Verdict.{RuleFileIsOne, SomeAnswerOf, VerdictIsOne}
use Rattle.tdsl_tool.proofs.Ended.{some_status, ends_so, ends_wider, own_status, completed, is_run_of}
use Rattle.tdsl_tool.proofs.Ran.{HasReport, inspected}
use Rattle.tdsl_tool.proofs.Audited.{audited}

-- a journal is written where there is a report
report_behind : (of : Reading) (handed : Option (List (Entry Done))) (text : List ℕ) → IsSomeAnd handed (λ records. IsJournalFor of records text) → HasReport of
report_behind of (Some records) text is = (is.report, is.comes_to)
report_behind of None text is = absurd is

module _ (files : Folder) (handed : Option (List (Entry Done))) where
  -- how a command ends that hands out these records
  abbrev Ends : Asked → Writing → Ending → Type 0
  Ends asked out ending = EndsSo (IsOutput asked files handed) (IsStop asked files) out ending

module _ (files : Folder) where
  -- none stops for a failed write
  none_unwritten : (asked : Asked) → ¬ IsStop asked files unwritten
  none_unwritten unknown is = absurd (cc)
  none_unwritten (inspect names settings) (inl why) = why
  none_unwritten (inspect names settings) (inr why) = why
  none_unwritten (journal names settings) (inl why) = why
  none_unwritten (journal names settings) (inr why) = why
  none_unwritten (audit name) why = why
  none_unwritten (make seed frames) is = absurd (cc)
  none_unwritten (trial workers seed frames) is = absurd (cc)

  -- and none for words that are no command, but such words
  no_command_only : (asked : Asked) → IsStop asked files no_command → asked ≡ unknown
  no_command_only unknown is = refl
  no_command_only (inspect names settings) (inl why) = absurd why
  no_command_only (inspect names settings) (inr why) = absurd why
  no_command_only (journal names settings) (inl why) = absurd why
  no_command_only (journal names settings) (inr why) = absurd why
  no_command_only (audit name) why = absurd why
  no_command_only (make seed frames) is = absurd (cc)
  no_command_only (trial workers seed frames) is = absurd (cc)

  usage_only : (handed : Option (List (Entry Done))) (asked : Asked) (out : Writing) (ending : Ending) → Ends files handed asked out ending → ending_status ending ≡ 1 → asked ≡ unknown
  usage_only handed asked out (faulted no_command) ends is = no_command_only asked ends.0
  usage_only handed asked out finished ends is = absurd (omega arith)
  usage_only handed asked out (faulted cause) ends is = absurd (omega arith)

  -- such words end with 1 and the usage
  usage_told : (handed : Option (List (Entry Done))) (out faults : Writing) (ending : Ending) → Ends files handed unknown out ending → Tells faults ending → (ending_status ending ≡ 1) × TellsLine faults no_command × (out.after ≡ out.before)
  usage_told handed out faults finished ends tells = absurd ends.1
  usage_told handed out faults (faulted unwritten) ends tells = absurd ends.1
  usage_told handed out faults (faulted cause) ends tells = (ap status_of ends.0, subst (λ (c : Cause). TellsLine faults c) ends.0 tells, ends.1)

  -- none that stops ends as one that made its output
  not_made : (asked : Asked) (cause : Cause) → IsStop asked files cause → (status_of cause ≡ 0) ⊎ (status_of cause ≡ 3) → ⊥
  not_made asked unwritten is status = none_unwritten asked is
  not_made asked cause is status = elim status [ inl zero ↦ omega (arith, zero, some_status cause) | inr three ↦ omega (arith, three) ]

  -- the workers' records come with what was made, and with nothing else
  module _ (asked : Asked) (out : Writing) where
    hands_at : (made : Result Made Fault) (ending : Ending) → IfOk made (λ m. HandsOut asked files (records_of m))
        → IfErr made (λ fault. IsStop asked files (cause_of fault)) → IsPut (outcome_of made) out ending
        → (ending_status ending ≡ 0) ⊎ (ending_status ending ≡ 3) → HandsOut asked files (records_made made)
    hands_at (Ok made) ending out stop put status = out
    hands_at (Err fault) finished out stop put status = absurd put
    hands_at (Err fault) (faulted cause) out stop put status = absurd (not_made asked cause (subst (λ (c : Cause). IsStop asked files c) (sym put.0) stop) status)

    none_handed : (made : Result Made Fault) (ending : Ending) → IsPut (outcome_of made) out ending → ending_status ending ≢ 0 → ending_status ending ≢ 3 → records_made made ≡ None
    none_handed (Ok made) finished put nonzero other = absurd (nonzero refl)
    none_handed (Ok made) (faulted unwritten) put nonzero other = absurd (other refl)
    none_handed (Ok made) (faulted cause) put nonzero other = absurd put
    none_handed (Err fault) ending put nonzero other = refl

  -- a command that reads no file stops for want of memory alone
  memory_only : (asked : Asked) → IsAlone asked → (cause : Cause) → IsStop asked files cause → cause ≡ no_memory
  memory_only (make seed frames) here cause is = is
  memory_only (trial workers seed frames) here cause is = is
  memory_only asked here cause is = absurd here

module _ (one : VerdictIsOne) (one_file : RuleFileIsOne) (some : SomeAnswerOf) (bad_lines : FirstBadLines) where
  module _ (words : List (List ℕ)) (run : Run) (ending : Ending) (is : run.status ≡ ending_status ending) (ends : Ends run.files run.history (asked_by words) run.out ending) (tells : Tells run.faults ending) where
    at : (asked : Asked) → asked_by words ≡ asked → Ends run.files run.history asked run.out ending
    at asked are = subst (λ (a : Asked). Ends run.files run.history a run.out ending) are ends

    -- an inspection has a report where it ends with an output, and so has one whose journal is written
    inspects : (names : Names) (settings : Settings) → asked_by words ≡ inspect names settings → Inspected run (reading run.files names settings)
    inspects names settings are =
        let of = reading run.files names settings in
        inspected one one_file some run of ending is
        (ends_wider (IsOutput (inspect names settings) run.files run.history) (λ text. HasReport of) (IsStop (inspect names settings) run.files) run.out (λ text to. (text, to)) ending (at (inspect names settings) are))

    inspects_for_journal : (names : Names) (settings : Settings) → asked_by words ≡ journal names settings → Inspected run (reading run.files names settings)
    inspects_for_journal names settings are =
        let of = reading run.files names settings in
        inspected one one_file some run of ending is
        (ends_wider (IsOutput (journal names settings) run.files run.history) (λ text. HasReport of) (IsStop (journal names settings) run.files) run.out (report_behind of run.history) ending (at (journal names settings) are))

    usage_is : run.status ≡ 1 → asked_by words ≡ unknown
    usage_is status = usage_only run.files run.history (asked_by words) run.out ending ends (sym is ∙ status)

    reads_nothing : ((file : List ℕ) → run.files.after file ≡ run.files.before file) → IsAlone (asked_by words) → ReadsNothing run
    reads_nothing quiet alone =
        let only = memory_only run.files (asked_by words) alone in
        record {
          own = own_status (IsOutput (asked_by words) run.files run.history) (IsStop (asked_by words) run.files) run.out only ending run.status ends is;
          no_file = quiet;
          complete = completed (IsOutput (asked_by words) run.files run.history) (IsStop (asked_by words) run.files) run.out only ending run.status ends is;
        }

    ran : (IsAlone (asked_by words) → (file : List ℕ) → run.files.after file ≡ run.files.before file)
        → ((run.status ≡ 0) ⊎ (run.status ≡ 3) → HandsOut (asked_by words) run.files run.history)
        → (run.status ≢ 0 → run.status ≢ 3 → run.history ≡ None) → Ran words run
    ran quiet hands none = record {
      usage = (usage_is, λ none. is ∙ (usage_told run.files run.history run.out run.faults ending (at unknown none) tells).0);
      usage_line = λ status. let told = usage_told run.files run.history run.out run.faults ending (at unknown (usage_is status)) tells in (told.1, told.2);
      ends = is_run_of (IsOutput (asked_by words) run.files run.history) (IsStop (asked_by words) run.files) run ending is ends tells;
      inspection = inspects;
      journal_of = inspects_for_journal;
      audit_of = λ name are. audited bad_lines run (source run.files name) ending is (at (audit name) are);
      alone = λ here. reads_nothing (quiet here) here;
      history = hands;
      no_history = none;
    }

  -- what was made is what is asked for, where its own records are handed out
  output_made : (asked : Asked) (files : Folder) (history : Option (List (Entry Done))) (made : Result Made Fault) → history ≡ records_made made
      → IfOk made (λ m. IsOutput asked files (records_of m) m.text.items) → IfOk made (λ m. IsOutput asked files history m.text.items)
  output_made asked files history (Ok m) same output = subst (λ (h : Option (List (Entry Done))). IsOutput asked files h m.text.items) (sym same) output
  output_made asked files history (Err fault) same output = output

  -- a run that put what its command made
  pub ran_by : (words : List (List ℕ)) (run : Run) (asked : Asked) (made : Result Made Fault) (ending : Ending) → asked ≡ asked_by words
      → IfOk made (λ m. IsOutput asked run.files (records_of m) m.text.items) → IfOk made (λ m. HandsOut asked run.files (records_of m))
      → IfErr made (λ fault. IsStop asked run.files (cause_of fault))
      → IsPut (outcome_of made) run.out ending → run.history ≡ records_made made
      → (IsAlone asked → (file : List ℕ) → run.files.after file ≡ run.files.before file) → run.status ≡ ending_status ending → Tells run.faults ending → Ran words run
  ran_by words run asked made ending are output hands stop put history_is quiet is tells =
      let ends = ends_so (IsOutput asked run.files run.history) (IsStop asked run.files) run.out (none_unwritten run.files asked) made
      (output_made asked run.files run.history made history_is output) stop ending put in
      ran words run ending is (subst (λ (a : Asked). Ends run.files run.history a run.out ending) are ends) tells
      (λ alone. quiet (subst (λ (a : Asked). IsAlone a) (sym are) alone))
      (λ status. subst (λ (h : Option (List (Entry Done))). HandsOut (asked_by words) run.files h) (sym history_is)
      (subst (λ (a : Asked). HandsOut a run.files (records_made made)) are
      (hands_at run.files asked run.out made ending hands stop put (subst (λ (n : ℕ). (n ≡ 0) ⊎ (n ≡ 3)) is status))))
      (λ nonzero other. history_is ∙ none_handed run.files asked run.out made ending put (λ zero. nonzero (is ∙ zero)) (λ three. other (is ∙ three)))

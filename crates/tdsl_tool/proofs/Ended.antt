-- What holds of the run of any command, from how it ended.
use Rattle.std.proofs.Common.{◌≡◌, ◌≢◌, ◌⊎◌, inl, inr, ℕ, ◌<◌, List, Result, Ok, Err, refl, sym, ◌∙◌, ap, subst, arith}
use Rattle.std.specs.Prelude.{IfOk, IfErr}
use Rattle.report.specs.declared.fault.Fault.{Fault}
use Rattle.report.specs.Fault.{Cause, no_command, unwritten, no_memory, cause_of, status_of}
use Rattle.tdsl_tool.specs.declared.made.Made.{Made}
use Rattle.tdsl_tool.specs.Verdict.{Verdict, reports, stops}
use Rattle.tdsl_tool.specs.Run.{Writing, IsFaulty, Run, Ending, finished, faulted, ending_status, Tells, outcome_of, IsPut, IsWritten, IsCutOff, EndsSo, IsRunOf}

pub some_status : (cause : Cause) → 0 < status_of cause
some_status no_command = omega arith
some_status cause = omega arith

pub quiet_cause : (sink : Writing) (ending : Ending) → Tells sink ending → ending_status ending ≡ 0 → sink.after ≡ sink.before
quiet_cause sink finished tells is = tells
quiet_cause sink (faulted cause) tells is = absurd (omega (arith, some_status cause))

module _ (Is : List ℕ → Type 0) (Stops : Cause → Type 0) where
  -- what was made is such a text, or there is such a cause
  abbrev Fits : Verdict → Type 0
  Fits (reports text) = Is text
  Fits (stops cause) = Stops cause

  fits : (made : Result Made Fault) → IfOk made (λ m. Is m.text.items) → IfErr made (λ fault. Stops (cause_of fault)) → Fits (outcome_of made)
  fits (Ok made) is stop = is
  fits (Err fault) is stop = stop

  module _ (out : Writing) where
    put_so : ¬ Stops unwritten → (made : Verdict) → Fits made → (ending : Ending) → IsPut made out ending → EndsSo Is Stops out ending
    put_so none (reports text) is finished put = (text, is, put)
    put_so none (reports text) is (faulted unwritten) put = (text, is, put.0, put.1)
    put_so none (reports text) is (faulted other) put = absurd put
    put_so none (stops cause) is finished put = absurd put
    put_so none (stops cause) is (faulted unwritten) put = absurd (none (subst Stops (sym put.0) is))
    put_so none (stops cause) is (faulted other) put = (subst Stops (sym put.0) is, put.1)

    -- what was made and put ends a command so
    pub ends_so : ¬ Stops unwritten → (made : Result Made Fault) → IfOk made (λ m. Is m.text.items) → IfErr made (λ fault. Stops (cause_of fault)) → (ending : Ending) → IsPut (outcome_of made) out ending → EndsSo Is Stops out ending
    ends_so none made is stop ending put = put_so none (outcome_of made) (fits made is stop) ending put

    output_cause : (ending : Ending) → EndsSo Is Stops out ending → ending_status ending ≡ 0 → IsWritten Is out
    output_cause finished ends is = ends
    output_cause (faulted cause) ends is = absurd (omega (arith, some_status cause))

    pub write_cause : (ending : Ending) → EndsSo Is Stops out ending → ending_status ending ≡ 3 → IsCutOff Is out
    write_cause (faulted unwritten) ends is = ends
    write_cause finished ends is = absurd (omega arith)
    write_cause (faulted cause) ends is = absurd (omega arith)

    nothing_cause : (ending : Ending) → EndsSo Is Stops out ending → ending_status ending ≢ 0 → ending_status ending ≢ 3 → out.after ≡ out.before
    nothing_cause finished ends nonzero other = absurd (nonzero refl)
    nothing_cause (faulted unwritten) ends nonzero other = absurd (other refl)
    nothing_cause (faulted cause) ends nonzero other = ends.1

    -- where want of memory alone stops
    module _ (only : (cause : Cause) → Stops cause → cause ≡ no_memory) where
      pub own_status : (ending : Ending) (status : ℕ) → EndsSo Is Stops out ending → status ≡ ending_status ending → (status ≡ 0) ⊎ (status ≡ 3) ⊎ (status ≡ 7)
      own_status finished status ends is = inl is
      own_status (faulted unwritten) status ends is = inr (inl is)
      own_status (faulted cause) status ends is = inr (inr (is ∙ ap status_of (only cause ends.0)))

      pub completed : (ending : Ending) (status : ℕ) → EndsSo Is Stops out ending → status ≡ ending_status ending → ¬ IsFaulty out → (status ≡ 0) ⊎ (status ≡ 7)
      completed finished status ends is written = inl is
      completed (faulted unwritten) status ends is written = absurd (written ends.3)
      completed (faulted cause) status ends is written = inr (is ∙ ap status_of (only cause ends.0))

  pub is_run_of : (run : Run) (ending : Ending) → run.status ≡ ending_status ending → EndsSo Is Stops run.out ending → Tells run.faults ending → IsRunOf Is Stops run
  is_run_of run ending is ends tells = record {
    output = λ zero. (output_cause run.out ending ends (sym is ∙ zero), quiet_cause run.faults ending tells (sym is ∙ zero));
    write = λ three. write_cause run.out ending ends (sym is ∙ three);
    fault_line = (ending, is, ends, tells);
    nothing_out = λ nonzero other. nothing_cause run.out ending ends (λ zero. nonzero (is ∙ zero)) (λ three. other (is ∙ three));
  }

-- a run that makes such texts makes texts of a wider kind
pub ends_wider : (Is Wide : List ℕ → Type 0) (Stops : Cause → Type 0) (out : Writing) → ((text : List ℕ) → Is text → Wide text) → (ending : Ending) → EndsSo Is Stops out ending → EndsSo Wide Stops out ending
ends_wider Is Wide Stops out wider finished ends = (ends.0, wider ends.0 ends.1, ends.2)
ends_wider Is Wide Stops out wider (faulted unwritten) ends = (ends.0, wider ends.0 ends.1, ends.2, ends.3)
ends_wider Is Wide Stops out wider (faulted cause) ends = ends

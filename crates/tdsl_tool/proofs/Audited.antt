-- What holds of the run of an audit, from how it ended.
use Rattle.std.proofs.Common.{◌≡◌, ◌≢◌, ◌⊎◌, inl, inr, ℕ, ◌<◌, ◌≤◌, List, length, Some, refl, sym, ◌∙◌, ap, subst, arith}
use Rattle.history_audit.specs.Verdicts.{IsLegalWith}
use Rattle.journal_terms.specs.Legal.{IsLegalText, FirstBadLines}
use Rattle.report.specs.Fault.{unread, unwritten, long_file, no_memory, not_legal}
use Rattle.tdsl_tool.specs.Verdict.{max_file, Verdict, reports, stops, verdict_status}
use Rattle.tdsl_tool.specs.Run.{Source, Writing, HasFailed, IsFaulty, Run, EndsBy, Exactly, Ending, finished, faulted, ending_status, EndsSo}
use Rattle.tdsl_tool.specs.Audit.{IsJudged, IsAudit, IsAuditOf, HasAuditStatus, StopsAtJournal, Audited}
use Rattle.tdsl_tool.proofs.Ran.{IsFree, decided, decided_is}

-- how an audit ends
abbrev pub Ends : Source → Writing → Ending → Type 0
Ends file out ending = EndsSo (λ text. IsAuditOf file (reports text)) (StopsAtJournal file) out ending

legal_text : (text : List ℕ) (records sights : ℕ) → IsLegalWith text records sights → IsLegalText text
legal_text text records sights is = (is.journal, is.legal, is.text_is)

module _ (law : FirstBadLines) where
  -- a text comes to verdicts of one status only
  judged_status : (text : List ℕ) (v w : Verdict) → IsJudged text v → IsJudged text w → verdict_status v ≡ verdict_status w
  judged_status text (reports a) (reports b) p q = refl
  judged_status text (reports a) (stops (not_legal n)) p q = absurd (law.none text n (legal_text text p.0 p.1.0 p.1.1) q)
  judged_status text (stops (not_legal m)) (reports b) p q = absurd (law.none text m (legal_text text q.0 q.1.0 q.1.1) p)
  judged_status text (stops (not_legal m)) (stops (not_legal n)) p q = refl
  judged_status text (reports a) (stops cause) p q = absurd q
  judged_status text (stops (not_legal m)) (stops cause) p q = absurd q
  judged_status text (stops cause) w p q = absurd p

  audit_status : (name text : List ℕ) (v w : Verdict) → IsAudit name text v → IsAudit name text w → verdict_status v ≡ verdict_status w
  audit_status name text v w (inl p) (inl q) = ap verdict_status (p.1 ∙ sym q.1)
  audit_status name text v w (inl p) (inr q) = absurd (omega (arith, p.0, q.0))
  audit_status name text v w (inr p) (inl q) = absurd (omega (arith, p.0, q.0))
  audit_status name text v w (inr p) (inr q) = judged_status text v w p.1 q.1

  module _ (file : Source) (out : Writing) where
    read_cause : (ending : Ending) → Ends file out ending → ending_status ending ≡ 2 → HasFailed file
    read_cause (faulted (unread name)) ends is = ends.0.1
    read_cause finished ends is = absurd (omega arith)
    read_cause (faulted cause) ends is = absurd (omega arith)

    module _ (text : List ℕ) (told : file.told ≡ Some text) where
      found : (ending : Ending) → Ends file out ending → IsFree (ending_status ending) ⊎ HasAuditStatus file.name text (decided ending)
      found finished ends = inr (reports ends.0, refl, ends.1 text told)
      found (faulted unwritten) ends = inr (reports ends.0, refl, ends.1 text told)
      found (faulted (unread name)) ends = inl (inr refl)
      found (faulted no_memory) ends = inl (inl refl)
      found (faulted (long_file name)) ends = inr (stops (long_file name), refl, inl (ends.0.1 text told, ap (λ (n : List ℕ). stops (long_file n)) ends.0.0))
      found (faulted (not_legal line)) ends = inr (stops (not_legal line), refl, ends.0 text told)
      found (faulted cause) ends = absurd ends.0

      found_status : (ending : Ending) (status : ℕ) → Ends file out ending → HasAuditStatus file.name text status → IsFree (ending_status ending) ⊎ (decided ending ≡ status)
      found_status ending status ends has =
          elim (found ending ends) [
            | inl other ↦ inl other
            | inr here ↦ inr (sym here.1 ∙ audit_status file.name text here.0 has.0 here.2 has.2 ∙ has.1)
          ]

      exactly : (ending : Ending) (status wanted : ℕ) → Ends file out ending → status ≡ ending_status ending → 3 < wanted → wanted ≢ 7 → Exactly status wanted (HasAuditStatus file.name text wanted)
      exactly ending status wanted ends is low high = (only, back)
        where
          only : status ≡ wanted → HasAuditStatus file.name text wanted
          only same =
              elim (found ending ends) [
                | inl (inl seven) ↦ absurd (high (sym same ∙ is ∙ seven))
                | inl (inr two) ↦ absurd (omega arith)
                | inr here ↦ elim (decided_is ending) [
                  | inl other ↦ absurd (omega arith)
                  | inr equal ↦ subst (λ (n : ℕ). HasAuditStatus file.name text n) (equal ∙ sym is ∙ same) here
                ]
              ]

          back : HasAuditStatus file.name text wanted → EndsBy status wanted
          back has =
              elim (found_status ending wanted ends has) [
                | inl (inl seven) ↦ inr (inl (is ∙ seven))
                | inl (inr two) ↦ inr (inr (is ∙ two))
                | inr here ↦ elim (decided_is ending) [
                  | inl other ↦ absurd (omega arith)
                  | inr equal ↦ inl (is ∙ sym equal ∙ here)
                ]
              ]

      told_legal : (ending : Ending) (status : ℕ) → Ends file out ending → status ≡ ending_status ending → IsLegalText text → length text ≤ max_file → ¬ HasFailed file → ¬ IsFaulty out → (status ≡ 0) ⊎ (status ≡ 7)
      told_legal finished status ends is legal short read written = inl is
      told_legal (faulted unwritten) status ends is legal short read written = absurd (written ends.3)
      told_legal (faulted (unread name)) status ends is legal short read written = absurd (read ends.0.1)
      told_legal (faulted no_memory) status ends is legal short read written = inr is
      told_legal (faulted (long_file name)) status ends is legal short read written = absurd (omega (arith, ends.0.1 text told, short))
      told_legal (faulted (not_legal line)) status ends is legal short read written =
          elim (ends.0 text told) [
            | inl long ↦ absurd (omega (arith, long.0, short))
            | inr bad ↦ absurd (law.none text line legal bad.1)
          ]
      told_legal (faulted cause) status ends is legal short read written = absurd ends.0

  -- the run of an audit
  pub audited : (run : Run) (file : Source) (ending : Ending) → run.status ≡ ending_status ending → Ends file run.out ending → Audited run file
  audited run file ending is ends = record {
    read = λ two. read_cause file run.out ending ends (sym is ∙ two);
    refused = λ text told status. exactly file run.out text told ending run.status status ends is;
    complete = λ text told. told_legal file run.out text told ending run.status ends is;
  }

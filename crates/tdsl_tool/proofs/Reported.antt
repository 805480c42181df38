-- What a report says, and where there is none for too many findings.
use Rattle.std.proofs.Common.{◌≡◌, inr, ℕ, ◌<◌, ◌≤◌, List, [], length, get_or, refl, sym, ◌∙◌, ap, subst, arith}
use Rattle.std.specs.Prelude.{true, false, Bool, nat_lt, if◌then◌else◌, IsPermutation}
use Rattle.std.specs.List.Sorted.{IsNonDecreasing}
use Rattle.std.proofs.lemmas.Bool.Decides.{nat_tests}
use Rattle.capture_terms.specs.Capture.{Contents, contents_of, captured}
use Rattle.capture_terms.specs.Datagram.{incomplete}
use Rattle.capture_terms.specs.Plan.{kinds_of, tasks_of, groups_of, IsPlan}
use Rattle.capture_terms.specs.Kept.{classes_of}
use Rattle.capture_terms.specs.declared.capture.Capture.{Capture}
use Rattle.capture_terms.specs.declared.datagram.Class.{Class}
use Rattle.capture_terms.specs.declared.plan.Group.{Group}
use Rattle.capture_terms.specs.declared.plan.Plan.{Plan}
use Rattle.capture_terms.specs.declared.plan.Task.{Task}
use Rattle.rule_terms.specs.Rule.{Rule}
use Rattle.command_words.specs.declared.command.Settings.{Settings}
use Rattle.report.specs.Report.{text_of, report_lines}
use Rattle.inspection_terms.specs.Findings.{all_findings, findings_of_capture}
use Rattle.serial_terms.specs.Histories.{entries_of}
use Rattle.tdsl_tool.specs.Found.{IsInspection}
use Rattle.tdsl_tool.specs.Handed.{IsHistoryOf}
use Rattle.tdsl_tool.specs.Inspection.{report_of}
use Rattle.tdsl_tool.specs.declared.inspection.Inspection.{Inspection}
use Rattle.report.specs.Fault.{many_findings}
use Rattle.tdsl_tool.specs.Verdict.{max_file, IsAnswerOf, verdict_under, stops, reports, file_of, IsVerdictUnder}

-- what the workers found is what the definition finds
pub found_is : (settings : Settings) (rules : List Rule) (bytes : List ℕ) (it : Inspection) → IsInspection settings rules bytes it → it.outcome.findings.items ≡ findings_of_capture rules bytes settings.window (contents_of it.capture)
found_is settings rules bytes it is = is.findings.all ∙ ap (all_findings rules bytes) is.plan.tasks

-- so their records are those of a run over the file
unfoldable pub history_is : (settings : Settings) (rules : List Rule) (bytes : List ℕ) (it : Inspection) → IsInspection settings rules bytes it → IsHistoryOf settings rules bytes (entries_of it.outcome.history.records)
history_is settings rules bytes it is = record {
  capture = it.capture;
  says = is.says;
  plan = it.plan;
  plan_is = is.plan;
  state = it.outcome.state;
  run = is.run;
  log = subst (λ (found : List ℕ). IsPermutation (get_or it.outcome.state.logs 0 []) found) (found_is settings rules bytes it is) is.findings.of_log;
  ascend = subst (λ (found : List ℕ). IsNonDecreasing found) (found_is settings rules bytes it is) is.findings.ascend;
}

-- the verdict of a count of findings
pub under_few : (settings : Settings) (rules : List Rule) (bytes : List ℕ) (contents : Contents) → length (findings_of_capture rules bytes settings.window contents) ≤ settings.findings → reports (report_of rules bytes settings.window contents) ≡ verdict_under settings rules bytes contents
unfolding verdict_under
under_few settings rules bytes contents few =
    let not_many : nat_lt settings.findings (length (findings_of_capture rules bytes settings.window contents)) ≡ false = grind (arith, nat_tests) in
    sym (ap (λ (b : Bool). if b then stops many_findings else reports (report_of rules bytes settings.window contents)) not_many)

under_many : (settings : Settings) (rules : List Rule) (bytes : List ℕ) (contents : Contents) → settings.findings < length (findings_of_capture rules bytes settings.window contents) → stops many_findings ≡ verdict_under settings rules bytes contents
unfolding verdict_under
under_many settings rules bytes contents many =
    let too_many : nat_lt settings.findings (length (findings_of_capture rules bytes settings.window contents)) ≡ true = grind (arith, nat_tests) in
    sym (ap (λ (b : Bool). if b then stops many_findings else reports (report_of rules bytes settings.window contents)) too_many)

-- what is told of a capture by its classes, groups, open groups and findings is told of the file
pub told_of : {A : Type 0} (tell : Contents → List Class → List Group → ℕ → List ℕ → A) (settings : Settings) (rules : List Rule) (bytes : List ℕ) (it : Inspection) → IsInspection settings rules bytes it
    → tell (contents_of it.capture) it.plan.classes.items it.plan.groups.items it.outcome.incomplete it.outcome.findings.items
    ≡ tell (contents_of it.capture) (classes_of (kinds_of bytes settings.window (contents_of it.capture))) (groups_of (kinds_of bytes settings.window (contents_of it.capture)))
    (incomplete (tasks_of (kinds_of bytes settings.window (contents_of it.capture))) (groups_of (kinds_of bytes settings.window (contents_of it.capture)))) (findings_of_capture rules bytes settings.window (contents_of it.capture))
told_of tell settings rules bytes it is =
    let contents = contents_of it.capture in
    let kinds = kinds_of bytes settings.window contents in
    let open_of = is.open_groups.groups ∙ ap (λ (tasks : List Task). incomplete tasks it.plan.groups.items) is.plan.tasks ∙ ap (λ (g : List Group). incomplete (tasks_of kinds) g) is.plan.groups in
    ap (λ (c : List Class). tell contents c it.plan.groups.items it.outcome.incomplete it.outcome.findings.items) is.plan.classes
    ∙ ap (λ (g : List Group). tell contents (classes_of kinds) g it.outcome.incomplete it.outcome.findings.items) is.plan.groups
    ∙ ap (λ (n : ℕ). tell contents (classes_of kinds) (groups_of kinds) n it.outcome.findings.items) open_of
    ∙ ap (λ (f : List ℕ). tell contents (classes_of kinds) (groups_of kinds) (incomplete (tasks_of kinds) (groups_of kinds)) f) (found_is settings rules bytes it is)

-- the text of these
abbrev text_from : List Rule → Contents → List Class → List Group → ℕ → List ℕ → List ℕ
text_from rules contents classes groups open_groups findings = text_of (report_lines contents classes groups rules open_groups findings)

-- a report of what was found is that of the file
pub report_is : (settings : Settings) (rules : List Rule) (name bytes : List ℕ) (it : Inspection) (findings text : List ℕ) → length bytes ≤ max_file → IsInspection settings rules bytes it → findings ≡ it.outcome.findings.items
    → text ≡ text_from rules (contents_of it.capture) it.plan.classes.items it.plan.groups.items it.outcome.incomplete findings → IsVerdictUnder settings rules name bytes (reports text)
unfolding report_of
report_is settings rules name bytes it findings text short is found text_is =
    let contents = contents_of it.capture in
    let few : length (findings_of_capture rules bytes settings.window contents) ≤ settings.findings = omega (arith, is.findings.few, ap (length {A = ℕ}) (found_is settings rules bytes it is)) in
    record {
      capture = file_of (captured contents);
      capture_is = inr (captured contents, record { short = short; right = is.says }, refl);
      comes_to = ap reports
          (text_is
          ∙ ap (text_from rules contents it.plan.classes.items it.plan.groups.items it.outcome.incomplete) found
          ∙ told_of (text_from rules) settings rules bytes it is)
          ∙ under_few settings rules bytes contents few;
    }

-- so there is a report of it
pub report_made : (settings : Settings) (rules : List Rule) (name bytes : List ℕ) (it : Inspection) → length bytes ≤ max_file → IsInspection settings rules bytes it → (report : List ℕ) × IsVerdictUnder settings rules name bytes (reports report)
report_made settings rules name bytes it short is = (_, report_is settings rules name bytes it it.outcome.findings.items _ short is refl refl)

-- more findings than a report may have
pub too_many_is : (settings : Settings) (rules : List Rule) (name bytes : List ℕ) (capture : Capture) (plan : Plan) → length bytes ≤ max_file → IsAnswerOf bytes (captured (contents_of capture)) → IsPlan bytes capture settings.window plan
    → settings.findings < length (all_findings rules bytes plan.tasks.items) → IsVerdictUnder settings rules name bytes (stops many_findings)
too_many_is settings rules name bytes capture plan short says is many =
    let many_of : settings.findings < length (findings_of_capture rules bytes settings.window (contents_of capture)) = omega (arith, many, ap (λ (tasks : List Task). length (all_findings rules bytes tasks)) is.tasks) in
    record { capture = file_of (captured (contents_of capture)); capture_is = inr (captured (contents_of capture), record { short = short; right = says }, refl); comes_to = under_many settings rules bytes (contents_of capture) many_of }

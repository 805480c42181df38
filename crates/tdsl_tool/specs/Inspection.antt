-- The texts of an inspection.
use Rattle.std.specs.Prelude.{ℕ, List}
use Rattle.capture_terms.specs.Capture.{Contents}
use Rattle.capture_terms.specs.Kept.{classes_of}
use Rattle.capture_terms.specs.Plan.{kinds_of, tasks_of, groups_of}
use Rattle.capture_terms.specs.Datagram.{incomplete}
use Rattle.rule_terms.specs.Rule.{Rule}
use Rattle.inspection_terms.specs.Findings.{findings_of_capture}
use Rattle.report.specs.Report.{report_lines, text_of}
use Rattle.report.specs.Summary.{summary_lines}

-- the report of a capture under rules, from the capture's bytes to the text, with a window of so many seconds
unfoldable pub report_of : List Rule → List ℕ → ℕ → Contents → List ℕ
report_of rules bytes window contents =
    let kinds = kinds_of bytes window contents in
    let groups = groups_of kinds in
    let open_groups = incomplete (tasks_of kinds) groups in
    text_of (report_lines contents (classes_of kinds) groups rules open_groups (findings_of_capture rules bytes window contents))

-- the summary of a trial, whose capture was made from a seed with so many frames
unfoldable pub summary_of : ℕ → ℕ → List Rule → List ℕ → ℕ → Contents → List ℕ
summary_of seed frames rules bytes window contents =
    let kinds = kinds_of bytes window contents in
    let groups = groups_of kinds in
    let open_groups = incomplete (tasks_of kinds) groups in
    text_of (summary_lines seed frames contents (classes_of kinds) groups open_groups (findings_of_capture rules bytes window contents))

use Rattle.capture_terms.specs.Capture.{contents_of}
use Rattle.inspection_terms.specs.Findings.{findings_of_capture}
use Rattle.inspection_terms.proofs.Sorting.{sorted_one}
use Rattle.inspection_terms.proofs.sorted_are_findings.Goals as goal

pub returns : goal.returns
returns c = λ rules bytes capture window plan few fine is sorted shuffled rises.
    sorted_one (findings_of_capture rules bytes window (contents_of capture)) sorted (c.capture_findings_ascend.ensures rules bytes capture window plan few fine is) shuffled rises

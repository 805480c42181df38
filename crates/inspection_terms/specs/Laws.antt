-- What holds of the findings in a capture, whatever it is.
use Rattle.std.specs.Prelude.{◌≡◌, ℕ, ◌<◌, ◌≤◌, List, length, AllPairs, IsPermutation}
use Rattle.std.specs.List.Sorted.{IsNonDecreasing}
use Rattle.capture_terms.specs.Capture.{contents_of}
use Rattle.capture_terms.specs.Plan.{IsClassifiable, IsPlan}
use Rattle.capture_terms.specs.declared.capture.Capture.{Capture}
use Rattle.capture_terms.specs.declared.plan.Plan.{Plan}
use Rattle.rule_terms.specs.Rule.{Rule}
use Rattle.inspection_terms.specs.Findings.{findings_of_capture}

-- the findings of at most 65,536 rules in a capture that has a plan ascend
abbrev pub CaptureFindingsAscend : Type 0
CaptureFindingsAscend = (rules : List Rule) (bytes : List ℕ) (capture : Capture) (window : ℕ) (plan : Plan)
    → length rules ≤ 65536 → IsClassifiable bytes capture → IsPlan bytes capture window plan
    → AllPairs (λ f later. f < later) (findings_of_capture rules bytes window (contents_of capture))

-- so whatever order they were found in, sorted they are the findings of the capture
abbrev pub SortedAreFindings : Type 0
SortedAreFindings = (rules : List Rule) (bytes : List ℕ) (capture : Capture) (window : ℕ) (plan : Plan)
    → length rules ≤ 65536 → IsClassifiable bytes capture → IsPlan bytes capture window plan
    → (sorted : List ℕ) → IsPermutation (findings_of_capture rules bytes window (contents_of capture)) sorted → IsNonDecreasing sorted
    → sorted ≡ findings_of_capture rules bytes window (contents_of capture)

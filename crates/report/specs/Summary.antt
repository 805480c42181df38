-- The summary of a trial. It is this project's own.
use Rattle.std.specs.Prelude.{ℕ, ◌%◌, ◌^◌, List, [], ◌∷◌, ◌++◌, length, map, codes, sum}
use Rattle.std.specs.Fmt.{decimal}
use Rattle.capture_terms.specs.Capture.{Contents}
use Rattle.capture_terms.specs.declared.plan.Group.{Group}
use Rattle.capture_terms.specs.declared.datagram.Class.{Class}
use Rattle.report.specs.Report.{Line, counts_of, count_line}

-- which trial it is: the seed of its capture, and how many frames were asked for
abbrev pub trial_line : ℕ → ℕ → Line
trial_line seed frames = codes "trial " ++ decimal seed ++ 32 ∷ decimal frames

-- the sum of the findings as numbers, modulo 2^64
abbrev pub sum_line : List ℕ → Line
sum_line findings = count_line (codes "sum", sum findings % 2 ^ 64)

-- a line of which trial it is, the counts of a report, and a line of the sum
abbrev pub summary_lines : ℕ → ℕ → Contents → List Class → List Group → ℕ → List ℕ → List Line
summary_lines seed frames contents classes groups incomplete findings =
    trial_line seed frames ∷ (map count_line (counts_of contents classes groups incomplete (length findings)) ++ sum_line findings ∷ [])

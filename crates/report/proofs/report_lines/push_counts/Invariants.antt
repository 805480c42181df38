use Rattle.std.proofs.Common.{◌≡◌, ◌++◌, take}
use Rattle.std.specs.List.{flat_map}
use Rattle.report.specs.Report.{ended, count_line}
use Rattle.report.proofs.report_lines.push_counts.Given as goal

abbrev pub invariant-loop-word : goal.invariant-loop-word
invariant-loop-word l = l.text.items ≡ l.fn.text.items ++ flat_map (λ count. ended (count_line (count.0.now, count.1))) (take l.word-index l.counts)

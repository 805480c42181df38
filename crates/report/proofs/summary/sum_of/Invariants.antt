use Rattle.std.proofs.Common.{◌≡◌, ◌^◌, ◌%◌, take}
use Rattle.std.specs.Prelude.{sum}
use Rattle.report.proofs.summary.sum_of.Given as goal

abbrev pub invariant-loop-finding : goal.invariant-loop-finding
invariant-loop-finding l = l.total ≡ sum (take l.finding-index l.findings) % 2 ^ 64

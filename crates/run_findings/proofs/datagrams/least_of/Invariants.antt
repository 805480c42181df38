use Rattle.std.proofs.Common.{take}
use Rattle.std.specs.Prelude.{All, Contains, ◌≤◌}
use Rattle.run_findings.proofs.datagrams.least_of.Given as goal

abbrev pub invariant-loop-number : goal.invariant-loop-number
invariant-loop-number l = record {
  among : Contains l.numbers l.least;
  least : All (λ number. l.least ≤ number) (take l.number-index l.numbers);
}

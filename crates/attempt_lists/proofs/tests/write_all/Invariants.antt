use Rattle.std.proofs.Common.{◌≡◌, []}
use Rattle.attempt_lists.proofs.tests.write_all.Given as goal

abbrev pub invariant-loop-i : goal.invariant-loop-i
invariant-loop-i l = l.writes.child ≡ []

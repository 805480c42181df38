use Rattle.tx_core.proofs.Checking.{IsChecking}
use Rattle.tx_core.proofs.check.check.Given as goal

abbrev pub invariant-loop-i : goal.invariant-loop-i
invariant-loop-i g l = IsChecking l.table l.initial.pass l.reads l.i l.pass

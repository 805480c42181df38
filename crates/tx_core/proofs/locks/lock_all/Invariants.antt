use Rattle.tx_core.proofs.LateLocks.{IsLocking, Counted}
use Rattle.tx_core.proofs.locks.lock_all.Given as goal

abbrev pub invariant-loop-index : goal.invariant-loop-index
invariant-loop-index g l = IsLocking l.table l.version l.reads l.writes.parent l.initial.pass l.initial.held.reserved l.index l.index l.pass l.held × Counted l.initial.pass l.pass

use Rattle.tx_pool.proofs.Walking.{IsWalking}
use Rattle.tx_pool.proofs.walk.walk.Given as goal

abbrev pub invariant-loop-i : goal.invariant-loop-i
invariant-loop-i g l = IsWalking l.part l.from l.wanted l.initial.tx l.i l.first l.tx

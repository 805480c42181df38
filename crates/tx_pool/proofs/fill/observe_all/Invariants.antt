use Rattle.tx_pool.proofs.Seeing.{IsSeeing}
use Rattle.tx_pool.proofs.fill.observe_all.Given as goal

abbrev pub invariant-loop-i : goal.invariant-loop-i
invariant-loop-i g l = IsSeeing l.part l.from l.initial.tx l.i l.tx

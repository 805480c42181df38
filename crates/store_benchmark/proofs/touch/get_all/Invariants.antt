use Rattle.std.proofs.Common.{take}
use Rattle.store_benchmark.specs.Asked.{Asked, gets}
use Rattle.store_benchmark.proofs.touch.get_all.Given as goal

abbrev pub invariant-loop-key : goal.invariant-loop-key
invariant-loop-key l = Asked l.fn.tx l.tx (gets (take l.key-index l.keys))

use Rattle.std.proofs.Common.{take}
use Rattle.store_benchmark.specs.Asked.{Asked, puts}
use Rattle.store_benchmark.proofs.touch.put_all.Given as goal

abbrev pub invariant-loop-key : goal.invariant-loop-key
invariant-loop-key l = Asked l.fn.tx l.tx (puts l.value (take l.key-index l.keys))

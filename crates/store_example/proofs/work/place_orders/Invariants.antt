use Rattle.store_example.specs.Passes.{Worked}
use Rattle.store_example.proofs.work.place_orders.Given as goal

abbrev pub invariant-loop-i : goal.invariant-loop-i
invariant-loop-i l = Worked l.store l.fn.pass l.pass

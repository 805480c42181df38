use Rattle.store_example.specs.Passes.{Worked}
use Rattle.store_example.proofs.work.work.Given as goal

abbrev pub invariant-loop : goal.invariant-loop
invariant-loop l = Worked l.store l.fn.pass l.pass

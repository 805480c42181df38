use Rattle.serial_terms.specs.Counts.{numbers_from}
use Rattle.run_bodies.proofs.filling.give_all.Given as goal
use Rattle.run_bodies.specs.RunStores.{work_of_run}
use Rattle.run_stages.specs.Allowed.{gives}
use Rattle.tx_store.specs.Bodies.{Does}

abbrev pub invariant-loop-place : goal.invariant-loop-place
invariant-loop-place l = Does l.initial.tx l.tx (gives (work_of_run l._run) (numbers_from l.first l.place))

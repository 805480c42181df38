use Rattle.serial_terms.specs.Renaming.{by_key}
use Rattle.run_bodies.specs.RunStores.{work_of_run}
use Rattle.run_bodies.proofs.Walking.{some_tasks}
use Rattle.run_bodies.proofs.matching.telling.walk_tells_law.Goals as goal

pub returns : goal.returns
returns c = λ before is. some_tasks c.walk_stays_in_group_law.ensures (work_of_run c.args.run.now) (by_key c.args.tx.now.attempt.notes) c.told_law.ensures.runs c.args.group c.args.word before is

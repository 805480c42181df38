use Rattle.serial_terms.specs.Renaming.{by_key}
use Rattle.run_bodies.specs.RunStores.{work_of_run}
use Rattle.run_bodies.proofs.Walking.{all_tasks}
use Rattle.run_bodies.proofs.matching.telling.walk_ends_law.Goals as goal

pub returns : goal.returns
returns c = λ before is. all_tasks c.walk_finds_group_law.ensures (work_of_run c.args.run.now) (by_key c.args.tx.now.attempt.notes) c.told_law.ensures.runs c.args.group c.args.word before is

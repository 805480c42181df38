use Rattle.std.proofs.Common.{◌-◌, length}
use Rattle.run_bodies.specs.RunStores.{work_of_run}
use Rattle.run_bodies.proofs.Walking.{IsWalking}
use Rattle.run_bodies.proofs.matching.collecting.walk.Given as goal

abbrev pub decreases-links : goal.decreases-links
decreases-links g l = length (work_of_run l.run).tasks - length l.chain.items

abbrev pub invariant-links : goal.invariant-links
invariant-links g l = IsWalking (work_of_run l.run) l.group l.word l.initial.tx l.tx l.chain.items l.last

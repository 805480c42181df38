use Rattle.std.proofs.Common.{rules}
use Rattle.attempt_lists.specs.Laid.{word_at-merged}
use Rattle.attempt_lists.proofs.write_set.WriteSet.get.Goals as goal

pub returns-in-Some-clause-merged : goal.returns-in-Some-clause-merged
returns-in-Some-clause-merged c = rw (word_at-merged c.args.self.now c.ascending_law.ensures.child c.args.cell) (search rules)

pub returns-in-None-clause-merged : goal.returns-in-None-clause-merged
returns-in-None-clause-merged c = rw (word_at-merged c.args.self.now c.ascending_law.ensures.child c.args.cell) (search rules)

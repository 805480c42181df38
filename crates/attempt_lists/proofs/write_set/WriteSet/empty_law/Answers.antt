use Rattle.attempt_lists.specs.Laid.{none-laid_over}
use Rattle.attempt_lists.proofs.write_set.WriteSet.empty_law.Goals as goal

pub returns : goal.returns
returns c = none-laid_over c.args.self.now.parent c.args.self.now.child c.ascending_law.ensures.parent

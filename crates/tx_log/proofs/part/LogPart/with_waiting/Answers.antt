use Rattle.std.proofs.Common.{arith}
use Rattle.tx_log.proofs.part.LogPart.with_waiting.Goals as goal

pub returns : goal.returns
returns g c = λ low. let spare = c.provided_law.ensures.each c.requires.before_commit c.args.self.now.part in omega (arith, spare.0)

use Rattle.serial_terms.proofs.Renamed.{stay_allowed}
use Rattle.serial_terms.proofs.purpose.renamed_stay_allowed_law.Goals as goal

pub returns : goal.returns
returns g c = stay_allowed g.K.KeyRule.passes (g.P.Lawful.allowed c.args._purpose.now)

use Rattle.serial_terms.proofs.Purposes.{stays_lawful}
use Rattle.serial_terms.proofs.purpose.running_stays_lawful_law.Goals as goal

pub returns : goal.returns
returns g c = stays_lawful (g.P.Lawful.lawful_state c.args._purpose.now)

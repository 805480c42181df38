use Rattle.serial_terms.proofs.Purposes.{allowed_lawfully}
use Rattle.serial_terms.proofs.purpose.allowed_runs_lawfully_law.Goals as goal

pub returns : goal.returns
returns g c = allowed_lawfully (g.P.Lawful.lawful_state c.args._purpose.now) (g.P.Lawful.allowed c.args._purpose.now)

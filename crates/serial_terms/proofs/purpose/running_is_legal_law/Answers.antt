use Rattle.serial_terms.proofs.Purposes.{running_legal}
use Rattle.serial_terms.proofs.purpose.running_is_legal_law.Goals as goal

pub returns : goal.returns
returns g c = running_legal (g.P.Lawful.lawful_state c.args._purpose.now)

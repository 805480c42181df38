use Rattle.serial_terms.proofs.Purposes.{merged_running}
use Rattle.serial_terms.proofs.purpose.merged_is_running_law.Goals as goal

pub returns : goal.returns
returns g c = merged_running (g.P.Lawful.lawful_state c.args._purpose.now)

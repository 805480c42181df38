use Rattle.serial_terms.proofs.Purposes.{lawful_legal}
use Rattle.serial_terms.proofs.purpose.lawful_runs_are_legal_law.Goals as goal

pub returns : goal.returns
returns g c = lawful_legal (g.P.Lawful.lawful_state c.args._purpose.now)

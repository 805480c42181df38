use Rattle.store_layout.proofs.Worked.{worked_state}
use Rattle.store_layout.proofs.laws.worked_state_law.Goals as goal

pub returns : goal.returns
returns c = worked_state

use Rattle.tx_stack.proofs.Records.{moves}
use Rattle.tx_stack.proofs.laws.moves_move_the_top_law.Goals as goal

pub returns : goal.returns
returns c = moves

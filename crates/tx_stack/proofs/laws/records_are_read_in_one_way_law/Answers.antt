use Rattle.tx_stack.proofs.Reading.{read_one_way}
use Rattle.tx_stack.proofs.laws.records_are_read_in_one_way_law.Goals as goal

pub returns : goal.returns
returns c = read_one_way

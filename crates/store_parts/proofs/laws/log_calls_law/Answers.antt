use Rattle.store_parts.proofs.Logs.{log_calls}
use Rattle.store_parts.proofs.laws.log_calls_law.Goals as goal

pub returns : goal.returns
returns c = λ s l is there few. log_calls c.parts_are_apart_law.ensures s l there few c.args.part.now is c.serial_law.ensures.append c.serial_law.ensures.append_placed c.serial_law.ensures.read c.serial_law.ensures.len

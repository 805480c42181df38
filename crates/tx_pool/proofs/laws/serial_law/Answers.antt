use Rattle.tx_pool.proofs.Serial.{serial_take, serial_put}
use Rattle.tx_pool.proofs.laws.serial_law.Goals as goal

pub returns-clause-take : goal.returns-clause-take
returns-clause-take c = serial_take

pub returns-clause-put : goal.returns-clause-put
returns-clause-put c = serial_put

use Rattle.tx_log.proofs.Serial.{serial_append, serial_append_placed, serial_read, serial_len}
use Rattle.tx_log.proofs.laws.serial_law.Goals as goal

pub returns-clause-append : goal.returns-clause-append
returns-clause-append c = serial_append

pub returns-clause-append_placed : goal.returns-clause-append_placed
returns-clause-append_placed c = serial_append_placed

pub returns-clause-read : goal.returns-clause-read
returns-clause-read c = serial_read

pub returns-clause-len : goal.returns-clause-len
returns-clause-len c = serial_len

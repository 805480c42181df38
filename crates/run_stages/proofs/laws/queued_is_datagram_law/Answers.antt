use Rattle.run_stages.proofs.Telling.{queued_datagram}
use Rattle.run_stages.proofs.laws.queued_is_datagram_law.Goals as goal

pub returns : goal.returns
returns c = queued_datagram

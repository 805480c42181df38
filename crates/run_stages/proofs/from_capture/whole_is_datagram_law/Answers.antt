use Rattle.run_stages.proofs.FromCapture.{whole_datagram}
use Rattle.run_stages.proofs.from_capture.whole_is_datagram_law.Goals as goal

pub returns : goal.returns
returns c = whole_datagram

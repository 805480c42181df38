use Rattle.run_stages.proofs.FromCapture.{group_datagram}
use Rattle.run_stages.proofs.from_capture.group_is_datagram_law.Goals as goal

pub returns : goal.returns
returns c = λ rules bytes tasks groups. group_datagram rules bytes tasks groups (record { named = c.member_law.ensures.named; each = c.member_law.ensures.each; only = c.member_law.ensures.only; complete = c.member_law.ensures.complete })

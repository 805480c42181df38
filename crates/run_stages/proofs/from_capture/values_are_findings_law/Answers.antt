use Rattle.run_stages.proofs.FromCapture.{values_found}
use Rattle.run_stages.proofs.from_capture.values_are_findings_law.Goals as goal

pub returns : goal.returns
returns c = λ rules bytes tasks groups. values_found rules bytes tasks groups (record { named = c.member_law.ensures.named; each = c.member_law.ensures.each; only = c.member_law.ensures.only; complete = c.member_law.ensures.complete })

use Rattle.run_stages.proofs.FromTasks.{MembersAre, incomplete_iff, incomplete_counted}
use Rattle.run_stages.proofs.from_capture.incomplete_are_counted_law.Goals as goal

pub returns : goal.returns
returns c = λ rules bytes tasks groups.
    let m : MembersAre = record { named = c.member_law.ensures.named; each = c.member_law.ensures.each; only = c.member_law.ensures.only; complete = c.member_law.ensures.complete } in
    (incomplete_iff rules bytes tasks groups m, incomplete_counted rules bytes tasks groups m)

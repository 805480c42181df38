use Rattle.run_stages.proofs.Keys.{keys_incomplete}
use Rattle.run_stages.proofs.from_capture.keys_are_incomplete_law.Goals as goal

pub returns : goal.returns
returns c = λ rules bytes capture window planned fine is layout contents ascend lawful finished.
    keys_incomplete rules bytes planned.tasks.items planned.groups.items (c.plans_are_work_law.ensures rules bytes capture window planned fine is) layout contents ascend lawful finished (record { named = c.member_law.ensures.named; each = c.member_law.ensures.each; only = c.member_law.ensures.only; complete = c.member_law.ensures.complete })

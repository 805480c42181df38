use Rattle.run_stages.proofs.FromCapture.{word_there, words_counted}
use Rattle.run_stages.proofs.FromTasks.{MembersAre, is_sound}
use Rattle.run_stages.proofs.from_capture.finished_counts_incomplete_law.Goals as goal

pub returns : goal.returns
returns c = λ rules bytes capture window planned fine is s lawful finished.
    let p = is_sound rules bytes planned.tasks.items planned.groups.items (c.group_law.ensures bytes capture window planned fine is) in
    let m : MembersAre = record { named = c.member_law.ensures.named; each = c.member_law.ensures.each; only = c.member_law.ensures.only; complete = c.member_law.ensures.complete } in
    (word_there rules bytes planned.tasks.items planned.groups.items p s lawful finished m, words_counted rules bytes planned.tasks.items planned.groups.items p s lawful finished m)

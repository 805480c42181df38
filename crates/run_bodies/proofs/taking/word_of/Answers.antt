use Rattle.run_bodies.proofs.Taken.{with_child, added_there}
use Rattle.run_bodies.proofs.taking.word_of.Goals as goal

pub returns-in-Ok-clause-fits : goal.returns-in-Ok-clause-fits
returns-in-Ok-clause-fits g c =
    added_there _ _ c.told_law-in-Ok.ensures.runs c.told_law-in-Ok.ensures.tell c.args.group c.args.task c.in-Ok.old c.requires.member
    (with_child c.args.tx.now c.get.new.tx _ _ c.requires.taken c.in-Ok.ensures)

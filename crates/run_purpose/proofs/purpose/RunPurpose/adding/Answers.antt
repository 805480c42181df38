use Rattle.std.proofs.Common.{refl}
use Rattle.run_purpose.proofs.Words.{adds, end_fits}
use Rattle.run_purpose.proofs.purpose.RunPurpose.adding.Goals as goal

pub total_with-total-requires : goal.total_with-total-requires
total_with-total-requires c =
    let p = c.args.self.now in
    end_fits c.tasks_have_facts_law.ensures p.rules.now p.bytes.now p.plan.now.tasks.items p.plan.now.groups.items c.args.number c.args.old c.index-task.result.now c.requires.there c.index-task.ensures c.requires.fits.total

pub returns : goal.returns
returns c =
    let p = c.args.self.now in
    let parts = c.parts_of-link in
    adds c.tasks_have_facts_law.ensures p.rules.now p.bytes.now p.plan.now.tasks.items p.plan.now.groups.items c.args.number c.args.old c.index-task.result.now c.requires.there c.index-task.ensures
    _ parts.result.1.bytes _ parts.result.1.total c.total_with-total.result parts.ensures.bytes parts.ensures.total refl c.total_with-total.ensures c.number.ensures parts.ensures.link c.is_whole.ensures

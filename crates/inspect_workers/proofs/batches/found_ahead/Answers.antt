use Rattle.std.proofs.Common.{arith}
use Rattle.inspect_workers.proofs.batches.found_ahead.Goals as goal

pub overflow_cast-tasks : goal.overflow_cast-tasks
overflow_cast-tasks g c =
    let p = c.args.run.now in
    let small = (c.run_opens_lawful_law.ensures p.rules.now p.bytes.now p.plan.now c.requires.planned).0.tasks in
    let len = c.len-tasks.ensures in omega arith

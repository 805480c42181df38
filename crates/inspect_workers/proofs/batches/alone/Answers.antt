use Rattle.std.proofs.Common.{◌+◌, ◌*◌, length, refl}
use Rattle.inspect_workers.proofs.Batching.{ended, too_many}
use Rattle.inspect_workers.proofs.batches.alone.Goals as goal

pub returns-in-Done-clause-ended : goal.returns-in-Done-clause-ended
returns-in-Done-clause-ended c =
    let run = c.args.run.now in
    ended run c.args.store.now c.args.pass c.work_ahead-pass.result.0 c.requires.pass c.work_ahead-pass.result.1 (4 * length run.plan.now.tasks.items + 2) c.in-Done.is
    c.work_ahead-pass.ensures.ends c.work_ahead-pass.ensures.records c.work_ahead-pass.ensures.left

pub returns-in-Full-clause-refused : goal.returns-in-Full-clause-refused
returns-in-Full-clause-refused c =
    let run = c.args.run.now in
    let planned = c.requires.store.planned in
    let listed = c.datagrams_are_listed_law.ensures run.rules.now run.bytes.now run.plan.now.tasks.items run.plan.now.groups.items
    (c.task_law.ensures.ascending run.bytes.now planned.capture planned.window run.plan.now planned.is) in (
      refl,
      too_many run c.args.findings c.args.store.now c.requires.store c.args.pass c.work_ahead-pass.result.0 c.work_ahead-pass.result.1 c.in-Full.part c.in-Full.length c.in-Full.adding c.in-Full.is
          c.work_ahead-pass.ensures.ends listed.0 listed.1 listed.2,
    )

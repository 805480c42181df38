use Rattle.std.proofs.Common.{arith}
use Rattle.run_bodies.specs.RunStores.{work_of_run}
use Rattle.inspect_workers.proofs.Batching.{goes_on, more_left}
use Rattle.inspect_workers.proofs.batches.all_batches.Goals as goal

pub loop-fills-preserved : goal.loop-fills-preserved
loop-fills-preserved g c =
    let p = c.args.run.now in
    let w = work_of_run p in
    let tasks = (c.tasks_have_facts_law.ensures p.rules.now p.bytes.now p.plan.now.tasks.items p.plan.now.groups.items).0 in
    let more = more_left c.args.store.now w c.loop-fills.fills c.loop-fills.pass c.in_ok-back.back c.refill-back.result.0 c.refill-back.result.1 c.in-Filled.is c.refill-back.ensures.ends in
    record {
      goes_on = goes_on c.args.store.now w c.loop-fills.fills c.loop-fills.pass c.in_ok-back.back c.refill-back.result.0 c.refill-back.result.1 c.in-Filled.is c.refill-back.ensures.ends
          c.loop-fills.invariant.goes_on c.in_ok-back.ensures.ended c.refill-back.ensures.left c.requires.callers.0 c.requires.callers.1;
      free = c.one_batch.ensures.seats;
      left = λ _. omega (arith, tasks, more);
    }

pub unreachable-requires : goal.unreachable-requires
unreachable-requires g c =
    let p = c.args.run.now in
    let small = (c.run_opens_lawful_law.ensures p.rules.now p.bytes.now p.plan.now c.requires.store.planned).0.tasks in
    let all = c.loop-fills-test.false in
    let left = c.loop-fills.invariant.left (omega (arith, all)) in omega (arith, small, all, left)

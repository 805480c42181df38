use Rattle.std.proofs.Common.{◌+◌, ◌*◌, length, sym, arith}
use Rattle.run_bodies.specs.RunStores.{work_of_run}
use Rattle.inspect_workers.specs.Works.{most_draws}
use Rattle.inspect_workers.proofs.Recording.{turned_more, turned_up_to}
use Rattle.inspect_workers.proofs.Turning.{left_then, left_less}
use Rattle.inspect_workers.proofs.Working.{draws_few, draws_more, goes_on, ends_run, last_records}
use Rattle.inspect_workers.proofs.works.work_ahead.Goals as goal

pub turn_ahead-back-requires-clause-tries : goal.turn_ahead-back-requires-clause-tries
turn_ahead-back-requires-clause-tries g c =
    let planned = c.requires.store.1.planned in
    let p = c.args.run.now in
    let small = (c.run_opens_lawful_law.ensures p.rules.now p.bytes.now p.plan.now planned).0.tasks in
    let few = draws_few c.args.tries (c.loop-turns.turns + 1) (length p.plan.now.tasks.items) c.requires.tries.1 (let t = c.loop-turns-test.true in omega arith) small in
    let more = draws_more c.args.tries c.loop-turns.turns in
    let left = c.loop-turns.invariant.left.draws in
    let draws = c.requires.tries.2 in (c.requires.tries.0, c.requires.tries.1, omega arith)

pub returns-in-Some-clause-ends : goal.returns-in-Some-clause-ends
returns-in-Some-clause-ends g c =
    let p = c.args.run.now in
    let small = (c.run_opens_lawful_law.ensures p.rules.now p.bytes.now p.plan.now c.requires.store.1.planned).0.tasks in
    let test = c.loop-turns-test.true in
    let few = draws_few c.args.tries c.loop-turns.turns (length p.plan.now.tasks.items) c.requires.tries.1 (omega arith) small in
    record {
      before = c.loop-turns.pass;
      worked = turned_up_to (work_of_run p) c.loop-turns.turns (4 * length p.plan.now.tasks.items) c.args.pass.pass.books c.loop-turns.pass.pass.books (omega arith) c.loop-turns.invariant.turned;
      left = left_less c.args.store.now (2 * c.args.tries * c.loop-turns.turns) most_draws c.args.pass c.loop-turns.pass few c.loop-turns.invariant.left;
      ends = ends_run p c.args.store.now c.args.tries c.loop-turns.pass c.turn_ahead-back.result.0 c.turn_ahead-back.result.1 c.in-Some.end (sym c.in-Some.ensures) c.turn_ahead-back.ensures.ends;
    }

pub returns-in-Some-clause-records : goal.returns-in-Some-clause-records
returns-in-Some-clause-records g c =
    let p = c.args.run.now in
    let test = c.loop-turns-test.true in
    last_records p c.args.store.now c.args.tries c.loop-turns.pass c.turn_ahead-back.result.0 (4 * length p.plan.now.tasks.items) c.args.pass c.in-Some.end
    (turned_up_to (work_of_run p) c.loop-turns.turns (4 * length p.plan.now.tasks.items) c.args.pass.pass.books c.loop-turns.pass.pass.books (omega arith) c.loop-turns.invariant.turned)
    (ends_run p c.args.store.now c.args.tries c.loop-turns.pass c.turn_ahead-back.result.0 c.turn_ahead-back.result.1 c.in-Some.end (sym c.in-Some.ensures) c.turn_ahead-back.ensures.ends)

pub returns-in-Some-clause-left : goal.returns-in-Some-clause-left
returns-in-Some-clause-left g c =
    let p = c.args.run.now in
    let small = (c.run_opens_lawful_law.ensures p.rules.now p.bytes.now p.plan.now c.requires.store.1.planned).0.tasks in
    let test = c.loop-turns-test.true in
    let few = draws_few c.args.tries (c.loop-turns.turns + 1) (length p.plan.now.tasks.items) c.requires.tries.1 (omega arith) small in
    let more = draws_more c.args.tries c.loop-turns.turns in
    left_then c.args.store.now (2 * c.args.tries * c.loop-turns.turns) (2 * c.args.tries) most_draws c.args.pass c.loop-turns.pass c.turn_ahead-back.result.0 (omega arith) c.loop-turns.invariant.left c.turn_ahead-back.ensures.left

pub loop-turns-preserved : goal.loop-turns-preserved
loop-turns-preserved g c =
    let p = c.args.run.now in
    let more = draws_more c.args.tries c.loop-turns.turns in
    record {
      turned = turned_more (work_of_run p) c.loop-turns.turns c.args.pass.pass.books c.loop-turns.pass.pass.books c.turn_ahead-back.result.0.pass.books c.loop-turns.invariant.turned
          (goes_on p c.args.store.now c.args.tries c.loop-turns.pass c.turn_ahead-back.result.0 c.turn_ahead-back.result.1 (sym c.in-None.ensures) c.turn_ahead-back.ensures.ends);
      left = left_then c.args.store.now (2 * c.args.tries * c.loop-turns.turns) (2 * c.args.tries) (2 * c.args.tries * (c.loop-turns.turns + 1)) c.args.pass c.loop-turns.pass c.turn_ahead-back.result.0
          (omega arith) c.loop-turns.invariant.left c.turn_ahead-back.ensures.left;
    }

pub unreachable-requires : goal.unreachable-requires
unreachable-requires g c =
    let low = c.tell_bound.ensures c.loop-turns.turns c.args.pass.pass.books c.loop-turns.invariant.turned in
    let all = c.loop-turns-test.false in
    let n = c.len.ensures in omega arith

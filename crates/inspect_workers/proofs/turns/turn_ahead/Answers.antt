use Rattle.std.proofs.Common.{◌*◌, inl, arith}
use Rattle.run_bodies.specs.RunStores.{work_of_run}
use Rattle.inspect_workers.proofs.Turning.{left_then, adds, matched, matched_none, second_ends}
use Rattle.inspect_workers.proofs.turns.turn_ahead.Goals as goal

pub returns-then-matched-clause-ends : goal.returns-then-matched-clause-ends
returns-then-matched-clause-ends g c =
    inl (adds _ c.args.pass.pass c.in-Ok.done.0.pass (matched (work_of_run c.args.run.now) c.args.pass.pass c.in-Ok.done.0.pass c.in-Ok.done.1 c.if-matched.true c.in-Ok.ensures.committed))

pub returns-else-matched-clause-ends : goal.returns-else-matched-clause-ends
returns-else-matched-clause-ends g c =
    second_ends c.args.run.now c.args.store.now c.args.tries c.args.pass c.in-Ok.done.0 c.take_turn.result.0 c.in-Ok.ensures.left
    (matched_none (work_of_run c.args.run.now) c.args.pass.pass c.in-Ok.done.0.pass c.in-Ok.done.1 c.if-matched.false c.in-Ok.ensures.committed)
    c.tell_places.ensures c.take_turn.ensures.left c.take_turn.result.1 c.take_turn.ensures.ends

pub returns-else-matched-clause-left : goal.returns-else-matched-clause-left
returns-else-matched-clause-left g c =
    let n = c.args.tries in
    left_then c.args.store.now n n (2 * n) c.args.pass c.in-Ok.done.0 c.take_turn.result.0 (omega arith) c.in-Ok.ensures.left c.take_turn.ensures.left

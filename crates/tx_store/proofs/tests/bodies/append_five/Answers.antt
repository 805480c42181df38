use Rattle.std.proofs.lemmas.Result.{err_from_is_err_and}
use Rattle.tx_store.specs.Bodies.{NoMap}
use Rattle.tx_store.specs.BodyFacts.{same_then, stops_after}
use Rattle.tx_store.proofs.tests.bodies.append_five.Goals as goal

pub returns-in_err-append-clause-same : goal.returns-in_err-append-clause-same
returns-in_err-append-clause-same c = same_then c.args.tx.now c.loop-value.tx c.append.new.tx c.loop-value.invariant.same c.in_err-append.ensures.same

pub returns-in_err-append-clause-stopped : goal.returns-in_err-append-clause-stopped
returns-in_err-append-clause-stopped c =
    let p = err_from_is_err_and c.from_residual.result c.from_residual.ensures.1 in
    let stops = stops_after {full = NoMap} c.args.tx.now c.loop-value.tx c.append.new.tx _ c.loop-value.invariant.same
    (record { same = c.in_err-append.ensures.same; cause = c.in_err-append.ensures.stopped; full = c.in_err-append.ensures.no_map }) in
    rw (p.1, p.2) stops.cause

pub returns-in_err-append-clause-no_map : goal.returns-in_err-append-clause-no_map
returns-in_err-append-clause-no_map c =
    let p = err_from_is_err_and c.from_residual.result c.from_residual.ensures.1 in
    rw (p.1, p.2) c.in_err-append.ensures.no_map

pub loop-value-preserved : goal.loop-value-preserved
loop-value-preserved c = record {
  same = same_then c.args.tx.now c.loop-value.tx c.append.new.tx c.loop-value.invariant.same c.in_ok-append.ensures.same;
  running = c.in_ok-append.ensures.ok;
}

use Rattle.std.proofs.Common.{arith}
use Rattle.std.specs.Prelude.{Ok, Err}
use Rattle.tx_core.specs.declared.stop.Stop.TheVariants.{Memory}
use Rattle.tx_store.specs.Calls.{in_child}
use Rattle.tx_stack.specs.Stacks.{pushed, pushes, IsPutOn}
use Rattle.tx_stack.proofs.Steps.{did_count, then_put, stopped_behind, is_put_on, ready_after}
use Rattle.tx_stack.proofs.part.StackPart.push.Goals as goal

pub returns-in_err-cell_put-clause-called : goal.returns-in_err-cell_put-clause-called
returns-in_err-cell_put-clause-called c =
    let old = c.args.tx.now in
    let mid = c.len.new.tx in
    let p = c.args.self.now in
    let count = did_count old mid p c.in_ok-length.length c.in_ok-length.ensures.called in
    let stop = c.from_residual-in_err-cell_put in
    stopped_behind old c.cell_put.new.self p (pushes c.args.value) (IsPutOn p.capacity) stop.result Memory stop.ensures.1
    (then_put _ _ _ old mid c.cell_put.new.self _ count.0 {A = Unit {0}} 0 0 (Err c.in_err-cell_put.field-0.0) c.in_err-cell_put.ensures)

pub returns-in_err-cell_put-2-clause-called : goal.returns-in_err-cell_put-2-clause-called
returns-in_err-cell_put-2-clause-called c =
    let old = c.args.tx.now in
    let mid = c.len.new.tx in
    let p = c.args.self.now in
    let count = did_count old mid p c.in_ok-length.length c.in_ok-length.ensures.called in
    let item = then_put _ _ _ old mid c.cell_put.new.self _ count.0 {E = Unit {0}} _ _ (Ok c.in_ok-cell_put.field-0) c.in_ok-cell_put.ensures in
    let stop = c.from_residual-in_err-cell_put-2 in
    stopped_behind old c.cell_put-2.new.self p (pushes c.args.value) (IsPutOn p.capacity) stop.result Memory stop.ensures.1
    (then_put _ _ _ old c.cell_put.new.self c.cell_put-2.new.self _ item {A = Unit {0}} 0 0 (Err c.in_err-cell_put-2.field-0.0) c.in_err-cell_put-2.ensures)

pub returns-clause-called : goal.returns-clause-called
returns-clause-called c =
    let old = c.args.tx.now in
    let mid = c.len.new.tx in
    let p = c.args.self.now in
    let n = c.in_ok-length.length in
    let count = did_count old mid p n c.in_ok-length.ensures.called in
    let item = then_put _ _ _ old mid c.cell_put.new.self _ count.0 {E = Unit {0}} _ _ (Ok c.in_ok-cell_put.field-0) c.in_ok-cell_put.ensures in
    record {
      had = n;
      ends = then_put _ _ _ old c.cell_put.new.self c.cell_put-2.new.self _ item {E = Unit {0}} _ _ (Ok c.in_ok-cell_put-2.field-0) c.in_ok-cell_put-2.ensures;
      tells = is_put_on n p.capacity (omega (arith, c.if-length-from.false, c.from.ensures));
    }

pub returns-clause-ready : goal.returns-clause-ready
returns-clause-ready c =
    let old = c.args.tx.now in
    let mid = c.len.new.tx in
    let p = c.args.self.now in
    let n = c.in_ok-length.length in
    let count = did_count old mid p n c.in_ok-length.ensures.called in
    let item = then_put _ _ _ old mid c.cell_put.new.self _ count.0 {E = Unit {0}} _ _ (Ok c.in_ok-cell_put.field-0) c.in_ok-cell_put.ensures in
    let length = then_put _ _ _ old c.cell_put.new.self c.cell_put-2.new.self _ item {E = Unit {0}} _ _ (Ok c.in_ok-cell_put-2.field-0) c.in_ok-cell_put-2.ensures in
    ready_after old c.cell_put-2.new.self (record { part = p; had = n; child = in_child old.attempt.state; act = pushed c.args.value })
    (record { part = c.requires.stack.part; room = omega (arith, c.if-length-from.false, c.from.ensures) }) length c.requires.ready

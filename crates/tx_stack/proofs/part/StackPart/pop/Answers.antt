use Rattle.std.specs.Prelude.{Ok, Err}
use Rattle.tx_core.specs.declared.stop.Stop.TheVariants.{Memory}
use Rattle.tx_store.specs.Calls.{in_child}
use Rattle.tx_stack.specs.Stacks.{popped, pops, IsItemOf}
use Rattle.tx_stack.proofs.Steps.{did_count, then_get, then_put, stopped_behind, some_item, ready_after}
use Rattle.tx_stack.proofs.part.StackPart.pop.Goals as goal

pub returns-in_err-value-clause-called : goal.returns-in_err-value-clause-called
returns-in_err-value-clause-called c =
    let old = c.args.tx.now in
    let p = c.args.self.now in
    let count = did_count old c.len.new.tx p c.in_ok-length.length c.in_ok-length.ensures.called in
    let stop = c.from_residual-in_err-value in
    stopped_behind old c.cell_get.new.self p pops (IsItemOf p.capacity) stop.result c.in_err-value.field-0.0 stop.ensures.1
    (then_get _ _ _ old c.len.new.tx c.cell_get.new.self _ count.0 0 (Err c.in_err-value.field-0.0) c.in_err-value.ensures)

pub returns-in_err-cell_put-clause-called : goal.returns-in_err-cell_put-clause-called
returns-in_err-cell_put-clause-called c =
    let old = c.args.tx.now in
    let p = c.args.self.now in
    let count = did_count old c.len.new.tx p c.in_ok-length.length c.in_ok-length.ensures.called in
    let item = then_get _ _ _ old c.len.new.tx c.cell_get.new.self _ count.0 _ (Ok c.in_ok-value.value) c.in_ok-value.ensures in
    let stop = c.from_residual-in_err-cell_put in
    stopped_behind old c.cell_put.new.self p pops (IsItemOf p.capacity) stop.result Memory stop.ensures.1
    (then_put _ _ _ old c.cell_get.new.self c.cell_put.new.self _ item {A = Unit {0}} 0 0 (Err c.in_err-cell_put.field-0.0) c.in_err-cell_put.ensures)

pub returns-clause-called : goal.returns-clause-called
returns-clause-called c =
    let old = c.args.tx.now in
    let p = c.args.self.now in
    let n = c.in_ok-length.length in
    let count = did_count old c.len.new.tx p n c.in_ok-length.ensures.called in
    let item = then_get _ _ _ old c.len.new.tx c.cell_get.new.self _ count.0 _ (Ok c.in_ok-value.value) c.in_ok-value.ensures in
    record {
      had = n;
      ends = then_put _ _ _ old c.cell_get.new.self c.cell_put.new.self _ item {E = Unit {0}} _ _ (Ok c.in_ok-cell_put.field-0) c.in_ok-cell_put.ensures;
      tells = (some_item n c.if-length-eq0.false, count.1);
    }

pub returns-clause-ready : goal.returns-clause-ready
returns-clause-ready c =
    let old = c.args.tx.now in
    let p = c.args.self.now in
    let n = c.in_ok-length.length in
    let count = did_count old c.len.new.tx p n c.in_ok-length.ensures.called in
    let item = then_get _ _ _ old c.len.new.tx c.cell_get.new.self _ count.0 _ (Ok c.in_ok-value.value) c.in_ok-value.ensures in
    ready_after old c.cell_put.new.self (record { part = p; had = n; child = in_child old.attempt.state; act = popped c.in_ok-value.value })
    (record { part = c.requires.stack.part; room = (some_item n c.if-length-eq0.false, count.1) })
    (then_put _ _ _ old c.cell_get.new.self c.cell_put.new.self _ item {E = Unit {0}} _ _ (Ok c.in_ok-cell_put.field-0) c.in_ok-cell_put.ensures) c.requires.ready

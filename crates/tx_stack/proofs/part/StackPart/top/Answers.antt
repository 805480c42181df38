use Rattle.std.specs.Prelude.{Ok, Err}
use Rattle.tx_store.specs.Calls.{in_child}
use Rattle.tx_stack.specs.Stacks.{shown, shows, IsItemOf}
use Rattle.tx_stack.proofs.Steps.{did_count, then_get, stopped_behind, some_item, ready_after}
use Rattle.tx_stack.proofs.part.StackPart.top.Goals as goal

pub returns-in_err-item-clause-called : goal.returns-in_err-item-clause-called
returns-in_err-item-clause-called c =
    let old = c.args.tx.now in
    let p = c.args.self.now in
    let count = did_count old c.len.new.tx p c.in_ok-length.length c.in_ok-length.ensures.called in
    let stop = c.from_residual-in_err-item in
    stopped_behind old c.cell_get.new.self p shows (IsItemOf p.capacity) stop.result c.in_err-item.field-0.0 stop.ensures.1
    (then_get _ _ _ old c.len.new.tx c.cell_get.new.self _ count.0 0 (Err c.in_err-item.field-0.0) c.in_err-item.ensures)

pub returns-clause-called : goal.returns-clause-called
returns-clause-called c =
    let old = c.args.tx.now in
    let p = c.args.self.now in
    let n = c.in_ok-length.length in
    let count = did_count old c.len.new.tx p n c.in_ok-length.ensures.called in
    record {
      had = n;
      ends = then_get _ _ _ old c.len.new.tx c.cell_get.new.self _ count.0 _ (Ok c.in_ok-item.item) c.in_ok-item.ensures;
      tells = (some_item n c.if-length-eq0.false, count.1);
    }

pub returns-clause-ready : goal.returns-clause-ready
returns-clause-ready c =
    let old = c.args.tx.now in
    let p = c.args.self.now in
    let n = c.in_ok-length.length in
    let count = did_count old c.len.new.tx p n c.in_ok-length.ensures.called in
    ready_after old c.cell_get.new.self (record { part = p; had = n; child = in_child old.attempt.state; act = shown c.in_ok-item.item })
    (record { part = c.requires.stack.part; room = (some_item n c.if-length-eq0.false, count.1) })
    (then_get _ _ _ old c.len.new.tx c.cell_get.new.self _ count.0 _ (Ok c.in_ok-item.item) c.in_ok-item.ensures) c.requires.ready

use Rattle.std.proofs.Common.{◌<◌, length, sym, subst}
use Rattle.std.specs.Prelude.{Ok, Err}
use Rattle.serial_terms.specs.declared.call.Call.TheVariants.{AppendPlaced}
use Rattle.serial_terms.specs.declared.call.Reply.TheVariants.{Value}
use Rattle.store_layout.specs.Shapes.{the_log}
use Rattle.tx_store.specs.Stores.{StoreView}
use Rattle.run_bodies.proofs.Appending.{may_call_in_child, acts_called, appends_none, appends_at}
use Rattle.run_bodies.proofs.ChildCalls.{still_in_child, stops_after}
use Rattle.run_bodies.proofs.matching.appending.append_all.Goals as goal

pub loop-value-init : goal.loop-value-init
loop-value-init g c = appends_none c.args.tx.now c.requires.child c.requires.marked

pub log_append_placed-requires-clause-callable : goal.log_append_placed-requires-clause-callable
log_append_placed-requires-clause-callable g c = may_call_in_child c.loop-value.tx (still_in_child c.args.tx.now c.loop-value.tx _ c.loop-value.invariant.does)

pub log_append_placed-requires-clause-log : goal.log_append_placed-requires-clause-log
log_append_placed-requires-clause-log g c = subst (λ (s : StoreView _). 0 < length s.table.meaning.plan.logs) (sym c.loop-value.invariant.does.goes.grows.store) c.requires.log

pub returns-in-Err-clause-stopped : goal.returns-in-Err-clause-stopped
returns-in-Err-clause-stopped g c =
    let so_far = c.loop-value.invariant in
    stops_after c.args.tx.now c.loop-value.tx c.log_append_placed.new.self so_far.calls c.in-Err.stop so_far.does
    (acts_called _ (the_log 0) 3 c.loop-value.tx c.log_append_placed.new.self (AppendPlaced 0 0) Value (Err c.in-Err.stop) (still_in_child c.args.tx.now c.loop-value.tx _ so_far.does) so_far.does.goes.mark c.in-Err.ensures)

pub loop-value-preserved : goal.loop-value-preserved
loop-value-preserved g c =
    let so_far = c.loop-value.invariant in
    appends_at c.args.values.now c.loop-value.value-index _ c.args.tx.now c.loop-value.tx c.log_append_placed.new.self c.in-Ok.field-0 c.loop-value-test.true so_far
    (acts_called _ (the_log 0) 3 c.loop-value.tx c.log_append_placed.new.self (AppendPlaced 0 _) Value (Ok c.in-Ok.field-0) (still_in_child c.args.tx.now c.loop-value.tx _ so_far.does) so_far.does.goes.mark c.in-Ok.ensures)

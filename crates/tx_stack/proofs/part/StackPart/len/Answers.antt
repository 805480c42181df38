use Rattle.std.proofs.Common.{refl}
use Rattle.std.specs.Prelude.{Ok, Err}
use Rattle.serial_terms.specs.declared.call.Call.TheVariants.{CellGet}
use Rattle.serial_terms.specs.declared.call.Reply.TheVariants.{Value}
use Rattle.store_parts.specs.Parts.{noted}
use Rattle.tx_store.specs.Calls.{in_child}
use Rattle.tx_stack.specs.CallFacts.{ends_called}
use Rattle.tx_stack.specs.Stacks.{counted}
use Rattle.tx_stack.proofs.Steps.{length_within, ready_after}
use Rattle.tx_stack.proofs.part.StackPart.len.Goals as goal

pub returns-in-Ok-clause-called : goal.returns-in-Ok-clause-called
returns-in-Ok-clause-called c =
    let old = c.args.tx.now in
    let new = c.cell_get.new.self in
    let p = c.args.self.now in
    let is = c.in-Ok.ensures in
    record {
      had = c.in-Ok.length;
      ends = ends_called _ _ _ old new (λ x. noted (CellGet p.base) (Value x) (in_child old.attempt.state) 0) (Ok c.in-Ok.length) c.requires.ready.callable.before_commit is;
      tells = (refl, length_within old new p c.in-Ok.length (in_child old.attempt.state) c.requires.stack c.requires.ready is.same.store is.notes c.tells_law.ensures.named c.seen_law.ensures);
    }

pub returns-in-Ok-clause-ready : goal.returns-in-Ok-clause-ready
returns-in-Ok-clause-ready c =
    let old = c.args.tx.now in
    let new = c.cell_get.new.self in
    let p = c.args.self.now in
    ready_after old new (record { part = p; had = c.in-Ok.length; child = in_child old.attempt.state; act = counted }) (record { part = c.requires.stack.part; room = tt })
    (ends_called _ _ _ old new (λ x. noted (CellGet p.base) (Value x) (in_child old.attempt.state) 0) (Ok c.in-Ok.length) c.requires.ready.callable.before_commit c.in-Ok.ensures) c.requires.ready

pub returns-in-Err-clause-called : goal.returns-in-Err-clause-called
returns-in-Err-clause-called c =
    let old = c.args.tx.now in
    let new = c.cell_get.new.self in
    let p = c.args.self.now in
    record {
      had = 0;
      ends = ends_called _ _ _ old new (λ x. noted (CellGet p.base) (Value x) (in_child old.attempt.state) 0) (Err c.in-Err.stop) c.requires.ready.callable.before_commit c.in-Err.ensures;
      tells = tt;
    }

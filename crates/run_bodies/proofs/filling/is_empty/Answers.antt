use Rattle.std.specs.Prelude.{Ok}
use Rattle.serial_terms.specs.declared.call.Call.TheVariants.{QueueLen}
use Rattle.serial_terms.specs.declared.call.Reply.TheVariants.{Value}
use Rattle.run_bodies.proofs.Filled.{checked, counted}
use Rattle.run_bodies.proofs.Outside.{acts_outside}
use Rattle.run_bodies.proofs.filling.is_empty.Goals as goal

pub returns-in-Ok : goal.returns-in-Ok
returns-in-Ok c =
    checked c.args.tx.now c.queue_len.new.self _ _ _ c.only_where.result
    (acts_outside _ _ _ c.args.tx.now c.queue_len.new.self (QueueLen 0) Value (Ok c.in-Ok.length) c.requires.callable c.in-Ok.ensures)
    (counted (QueueLen 0) c.in-Ok.length 0) c.only_where.ensures

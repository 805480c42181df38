use Rattle.std.specs.Prelude.{Ok}
use Rattle.serial_terms.specs.declared.call.Call.TheVariants.{Give}
use Rattle.serial_terms.specs.declared.call.Reply.TheVariants.{Flag}
use Rattle.run_bodies.proofs.Filled.{checked, given}
use Rattle.run_bodies.proofs.Outside.{acts_outside}
use Rattle.run_bodies.proofs.filling.give.Goals as goal

pub returns-in-Ok : goal.returns-in-Ok
returns-in-Ok c =
    checked c.args.tx.now c.pool_put.new.self _ _ _ c.only_where.result
    (acts_outside _ _ _ c.args.tx.now c.pool_put.new.self (Give 0 c.from.result) Flag (Ok c.in-Ok.given) c.requires.callable c.in-Ok.ensures)
    (given c.from.result c.args.task c.in-Ok.given c.from.ensures) c.only_where.ensures

use Rattle.std.specs.Prelude.{Ok}
use Rattle.serial_terms.specs.declared.call.Call.TheVariants.{CellGet}
use Rattle.serial_terms.specs.declared.call.Reply.TheVariants.{Value}
use Rattle.run_bodies.proofs.Filled.{checked, counted}
use Rattle.run_bodies.proofs.Outside.{acts_outside}
use Rattle.run_bodies.proofs.filling.has_count.Goals as goal

pub returns-in-Ok : goal.returns-in-Ok
returns-in-Ok c =
    checked c.args.tx.now c.cell_get.new.self _ _ _ c.only_where.result
    (acts_outside _ _ _ c.args.tx.now c.cell_get.new.self (CellGet 0) Value (Ok c.in-Ok.there) c.requires.callable c.in-Ok.ensures)
    (counted (CellGet 0) c.in-Ok.there c.args.fills) c.only_where.ensures

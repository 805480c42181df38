use Rattle.std.specs.Prelude.{Ok}
use Rattle.serial_terms.specs.declared.call.Call.TheVariants.{CellPut}
use Rattle.serial_terms.specs.declared.call.Reply.TheVariants.{Nothing}
use Rattle.run_bodies.proofs.Outside.{acts_outside}
use Rattle.run_bodies.proofs.filling.put_count.Goals as goal

pub returns-in-Ok : goal.returns-in-Ok
returns-in-Ok c = acts_outside _ _ _ c.args.tx.now c.cell_put.new.self (CellPut 0 c.args.fills) (λ _. Nothing) (Ok c.in-Ok.field-0) c.requires.callable c.in-Ok.ensures

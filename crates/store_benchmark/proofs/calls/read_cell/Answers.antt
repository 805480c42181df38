use Rattle.serial_terms.specs.declared.call.Call.TheVariants.{CellGet}
use Rattle.serial_terms.specs.declared.call.Reply.TheVariants.{Value}
use Rattle.store_layout.specs.Shapes.{the_cell}
use Rattle.store_benchmark.proofs.Asking.{called}
use Rattle.store_benchmark.proofs.calls.read_cell.Goals as goal

pub returns-in-Ok : goal.returns-in-Ok
returns-in-Ok c = called c.args.tx.now c.cell_get.new.self c.requires.ready (CellGet c.args.cell) (Value c.in-Ok.value) (the_cell c.args.cell) 3 c.in-Ok.ensures

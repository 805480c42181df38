use Rattle.serial_terms.specs.declared.call.Call.TheVariants.{CellPut}
use Rattle.serial_terms.specs.declared.call.Reply.TheVariants.{Nothing}
use Rattle.store_layout.specs.Shapes.{the_cell}
use Rattle.store_benchmark.proofs.Asking.{called}
use Rattle.store_benchmark.proofs.calls.write_cell.Goals as goal

pub returns-in-Ok : goal.returns-in-Ok
returns-in-Ok c = called c.args.tx.now c.cell_put.new.self c.requires.ready (CellPut c.args.cell c.args.value) Nothing (the_cell c.args.cell) 0 c.in-Ok.ensures

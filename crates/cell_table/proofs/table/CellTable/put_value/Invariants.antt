use Rattle.cell_table.specs.Seats.{record_of}
use Rattle.cell_table.proofs.table.CellTable.put_value.Given as goal

abbrev pub ghosts-put_first : goal.ghosts-put_first
ghosts-put_first g a = record { plan = record_of a.plan.now }

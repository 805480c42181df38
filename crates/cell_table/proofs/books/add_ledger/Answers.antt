use Rattle.std.proofs.Common.{◌∙◌}
use Rattle.cell_table.proofs.Ledgers.{ledger_inserted}
use Rattle.cell_table.proofs.books.add_ledger.Goals as goal

pub returns-clause-items : goal.returns-clause-items
returns-clause-items g c = c.in-Ok.ensures.items ∙ ledger_inserted c.args.ledger c.args.ledgers.now.items c.place_of-at.result (rw (← c.as_slice.ensures.value) c.place_of-at.ensures)

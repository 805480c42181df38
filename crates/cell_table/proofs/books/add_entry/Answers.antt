use Rattle.std.proofs.Common.{rules, refl}
use Rattle.cell_table.proofs.Ledgers.{entry_added}
use Rattle.cell_table.proofs.books.add_entry.Goals as goal

pub returns-clause-books : goal.returns-clause-books
returns-clause-books g c = entry_added c.args.ledgers.now.items c.index_mut-first.result.now _ c.args.entry c.requires (search rules) refl c.push_reserved.ensures.items

use Rattle.std.proofs.Common.{refl, arith}
use Rattle.cell_table.proofs.Ledgers.{entry_kept}
use Rattle.cell_table.proofs.books.reserve_entry.Goals as goal

pub returns-clause-books : goal.returns-clause-books
returns-clause-books g c = entry_kept c.args.ledgers.now.items c.index_mut-first.result.now _ (let a = c.args.ledgers.now.ok in let b = c.requires in omega arith) c.index_mut-first.ensures.value refl c.reserve.ensures.items

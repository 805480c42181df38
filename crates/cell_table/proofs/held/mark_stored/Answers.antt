use Rattle.std.proofs.Common.{rules, arith, refl}
use Rattle.cell_table.proofs.HeldList.{found_at, marked_at}
use Rattle.cell_table.proofs.held.mark_stored.Goals as goal

pub index_mut-entry-requires : goal.index_mut-entry-requires
index_mut-entry-requires c = let f = found_at c.args.cell c.args.held.now.items c.find-at.result c.requires.sorted (rw (← c.as_slice.ensures.value) c.find-at.ensures) c.requires.held in let l = f.0 in omega arith

pub returns-clause-items : goal.returns-clause-items
returns-clause-items c = marked_at c.args.cell c.args.held.now.items c.find-at.result c.index_mut-entry.result.now _ c.requires.sorted (rw (← c.as_slice.ensures.value) c.find-at.ensures) c.requires.held (search rules) (search rules) refl

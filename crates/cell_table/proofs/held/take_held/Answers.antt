use Rattle.std.proofs.Common.{arith, ◌∙◌, ap}
use Rattle.cell_table.specs.declared.entry.HeldCell.{HeldCell}
use Rattle.cell_table.proofs.HeldList.{found_at}
use Rattle.cell_table.proofs.held.take_held.Goals as goal

pub remove-requires : goal.remove-requires
remove-requires c = let f = found_at c.args.cell c.args.held.now.items c.find-at.result c.requires.sorted (rw (← c.as_slice.ensures.value) c.find-at.ensures) c.requires.held in let l = f.0 in omega arith

pub returns-clause-items : goal.returns-clause-items
returns-clause-items c = c.remove.ensures.items ∙ (found_at c.args.cell c.args.held.now.items c.find-at.result c.requires.sorted (rw (← c.as_slice.ensures.value) c.find-at.ensures) c.requires.held).1

pub returns-clause-version : goal.returns-clause-version
returns-clause-version c = ap (λ (h : HeldCell). h.version) c.remove.ensures.value ∙ (found_at c.args.cell c.args.held.now.items c.find-at.result c.requires.sorted (rw (← c.as_slice.ensures.value) c.find-at.ensures) c.requires.held).2 _

pub returns-clause-stored : goal.returns-clause-stored
returns-clause-stored c = ap (λ (h : HeldCell). h.stored) c.remove.ensures.value ∙ (found_at c.args.cell c.args.held.now.items c.find-at.result c.requires.sorted (rw (← c.as_slice.ensures.value) c.find-at.ensures) c.requires.held).3 _

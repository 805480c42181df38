use Rattle.std.proofs.Common.{◌∙◌}
use Rattle.cell_table.proofs.HeldList.{inserted_at, not_among}
use Rattle.cell_table.proofs.held.add_held.Goals as goal

pub returns-clause-items : goal.returns-clause-items
returns-clause-items c = c.in-Ok.ensures.items ∙ inserted_at _ c.args.held.now.items c.find-at.result (rw (← c.as_slice.ensures.value) c.find-at.ensures) (not_among c.args.cell c.args.held.now.items c.requires.other)

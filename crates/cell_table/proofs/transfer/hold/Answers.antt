use Rattle.std.proofs.Common.{refl, arith, ◌-◌}
use Rattle.cell_table.proofs.Unwritten.{read_held, grows_both}
use Rattle.cell_table.proofs.transfer.hold.Goals as goal

pub returns-clause-value : goal.returns-clause-value
returns-clause-value c = let took = c.in-Ok.ensures in
    read_held c.args.pass.now _ _ _ c.args.cell c.look_value-value.result (c.args.pass.now.places - 1) took.taken.0 c.look_value-value.ensures.view c.requires.sole.0 c.requires.sole.1 c.requires.free.0 c.alone_law.ensures c.look_value-value.ensures.of.2 c.requires.cell (took.still 0 refl (omega arith)) c.look_value-value.ensures.grows (λ u. c.look_value-value.ensures.held_value u)

pub returns-clause-grows : goal.returns-clause-grows
returns-clause-grows c = grows_both _ _ _ c.take_lock.ensures.grows c.look_value-value.ensures.grows

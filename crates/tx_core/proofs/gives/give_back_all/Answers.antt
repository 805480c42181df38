use Rattle.std.proofs.Common.{◌-◌, length, ap, arith}
use Rattle.tx_core.specs.Facts.{grew_more}
use Rattle.tx_core.proofs.HeldCells.{length_held_of}
use Rattle.tx_core.proofs.gives.give_back_all.Goals as goal

pub returns-clause-steps : goal.returns-clause-steps
returns-clause-steps g c = grew_more (length c.args.held.entries - 0) _ _ _ (omega (arith, length_held_of c.args.held.entries, ap length c.requires.listed)) c.give_back_to.ensures.steps

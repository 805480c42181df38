use Rattle.std.proofs.Common.{◌∙◌, refl, arith}
use Rattle.tx_core.proofs.Giving.{giving_begins, giving_cell, giving_step, giving_ends}
use Rattle.tx_core.proofs.gives.give_back_to.Goals as goal

pub loop-held-init : goal.loop-held-init
loop-held-init g c = (giving_begins _ _ _ _ c.requires.of c.requires.listed c.requires.in_table c.requires.len c.requires.stored c.requires.undrawn, refl)

pub give_back-requires-clause-cell : goal.give_back-requires-clause-cell
give_back-requires-clause-cell g c = (giving_cell _ _ _ _ c.loop-held.pass c.loop-held.held.entries c.pop.new.self.entries (c.in-Some.cell, c.in-Some.field-0-1) c.loop-held.invariant.0 c.in-Some.ensures.entries).0

pub give_back-requires-clause-held : goal.give_back-requires-clause-held
give_back-requires-clause-held g c = (giving_cell _ _ _ _ c.loop-held.pass c.loop-held.held.entries c.pop.new.self.entries (c.in-Some.cell, c.in-Some.field-0-1) c.loop-held.invariant.0 c.in-Some.ensures.entries).1

pub loop-held-preserved : goal.loop-held-preserved
loop-held-preserved g c = (
  giving_step _ _ _ _ c.loop-held.pass c.give_back.new.pass c.loop-held.held.entries c.pop.new.self.entries (c.in-Some.cell, c.in-Some.field-0-1) _ c.loop-held.invariant.0 (omega (arith, c.loop-held-test.true, c.len.ensures)) c.in-Some.ensures.entries c.in-Some.ensures.gone c.give_back.ensures.of c.give_back.ensures.view c.give_back.ensures.step,
  c.in-Some.ensures.reserved ∙ c.loop-held.invariant.1,
)

-- the first cells are left at the end
pub returns-clause-entries : goal.returns-clause-entries
returns-clause-entries g c = (giving_ends _ _ _ _ c.loop-held.pass c.loop-held.held.entries c.loop-held.invariant.0 (omega (arith, c.loop-held-test.false, c.len.ensures))).0

pub returns-clause-steps : goal.returns-clause-steps
returns-clause-steps g c = (giving_ends _ _ _ _ c.loop-held.pass c.loop-held.held.entries c.loop-held.invariant.0 (omega (arith, c.loop-held-test.false, c.len.ensures))).1

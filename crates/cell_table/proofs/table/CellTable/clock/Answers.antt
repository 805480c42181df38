use Rattle.std.proofs.Common.{arith, refl, ◌∙◌}
use Rattle.cell_table.specs.Steps.{clocked}
use Rattle.cell_table.proofs.ClockLoad.{clocks}
use Rattle.cell_table.proofs.Passes.{grows_clocked, pass_by, tied_by, same_table, clock_held, grows_by}
use Rattle.cell_table.proofs.Sole.{draws_told}
use Rattle.cell_table.proofs.table.CellTable.clock.Goals as goal

pub load-requires : goal.load-requires
load-requires g c = (
  same_table _ _ _ _ c.pass.view_is c.self.view_is c.requires.of.0,
  (let w = c.self.invariant.0 in omega arith),
  clocks g.M.Meaning.lawful g.M.Meaning.explains _ _ _ _ _ _ c.pass.invariant.0.acting,
)

pub invariant_of-pass : goal.invariant_of-pass
invariant_of-pass g c = let told = c.load.ensures.2 in (
  pass_by g.M.Meaning.lawful g.M.Meaning.explains _ _ (clocked c.pass.inside.seat.me.0 c.load.result) _ _ c.pass.invariant.0 told.0 (grows_clocked _ _ told.1) refl refl told.4,
  tied_by _ _ (clocked c.pass.inside.seat.me.0 c.load.result) _ _ _ c.pass.invariant.1 told.0 refl refl refl,
  c.pass.invariant.2,
  c.pass.invariant.3,
  c.load.ensures.2.5 ∙ c.pass.invariant.4,
)

pub returns-clause-held_stand : goal.returns-clause-held_stand
returns-clause-held_stand g c = clock_held _ _ _ c.load.result c.pass.view_is c.load.ensures.2.0 c.load.ensures.2.2

pub returns-clause-grows : goal.returns-clause-grows
returns-clause-grows g c = let told = c.load.ensures.2 in grows_by _ _ _ (clocked c.pass.inside.seat.me.0 c.load.result) c.pass.view_is told.0 (grows_clocked _ _ told.1)

pub returns-clause-sole : goal.returns-clause-sole
returns-clause-sole g c = draws_told g.M.Meaning.lawful g.M.Meaning.explains _ _ c.load.result _ c.pass.view_is c.pass.invariant.0 c.requires.of.3 c.load.ensures.2.3

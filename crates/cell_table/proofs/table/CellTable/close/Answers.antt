use Rattle.std.proofs.Common.{arith, ◌∙◌}
use Rattle.cell_table.proofs.Closing.{closes_as, closed_wide}
use Rattle.cell_table.proofs.table.CellTable.close.Goals as goal

pub invariant_of-result : goal.invariant_of-result
invariant_of-result g c = let wide = closed_wide g.M.Meaning.lawful g.M.Meaning.explains g.M.Meaning.keeps_lawful _ _ _ _ _ _ c.pass.inside.seat.me.0 c.close_with-closed.ensures.values.2 in (
  c.close_with-closed.ensures.values.0,
  c.close_with-closed.ensures.counts.1 ∙ c.self.invariant.1,
  (let a = c.close_with-closed.ensures.counts.0 in let b = c.self.invariant.0 in let d = wide.1 in omega arith),
  wide.0,
)

pub returns : goal.returns
returns g c = record { settled = closes_as g.M.Meaning.lawful g.M.Meaning.explains g.M.Meaning.keeps_lawful _ _ _ _ _ _ _ _ c.close_with-closed.ensures.values.2 c.pass.view_is c.requires.idle c.requires.sole c.pass.invariant.0 }

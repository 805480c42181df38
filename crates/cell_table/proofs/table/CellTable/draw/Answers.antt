use Rattle.std.proofs.Common.{arith, ap, ◌∙◌, ◌+◌}
use Rattle.cell_table.specs.Pass.{PassState}
use Rattle.cell_table.proofs.ClockAdd.{draws}
use Rattle.cell_table.proofs.Passes.{same_table, draw_held, draw_above, grows_drawn, grows_by}
use Rattle.cell_table.proofs.Attempts.{drawn_pass, drawn_tied}
use Rattle.cell_table.proofs.table.CellTable.draw.Goals as goal

pub overflow_sub-pass : goal.overflow_sub-pass
overflow_sub-pass g c = let e = c.pass.invariant.1.draws in let f = ap (λ (z : PassState g.row.M.Denot g.row.M-Done.Denot). z.view.draws) c.pass.view_is in let l = c.requires.left in omega arith

pub fetch_add-version-requires : goal.fetch_add-version-requires
fetch_add-version-requires g c = (
  same_table _ _ _ _ c.pass.view_is c.self.view_is c.requires.of.0,
  (let w = c.self.invariant.0 in omega arith),
  draws g.M.Meaning.lawful g.M.Meaning.explains _ _ _ _ _ _ (ap (λ (z : PassState g.row.M.Denot g.row.M-Done.Denot). z.view.stage) c.pass.view_is ∙ c.requires.undrawn) c.pass.invariant.0.acting (let f = ap (λ (z : PassState g.row.M.Denot g.row.M-Done.Denot). z.view.draws) c.pass.view_is in let l = c.requires.left in omega arith),
)

pub invariant_of-pass : goal.invariant_of-pass
invariant_of-pass g c = let told = c.fetch_add-version.ensures.2 in let st = ap (λ (z : PassState g.row.M.Denot g.row.M-Done.Denot). z.view.stage) c.pass.view_is ∙ c.requires.undrawn in (
  drawn_pass g.M.Meaning.lawful g.M.Meaning.explains _ c.fetch_add-version.new.seat.me.0 _ _ c.pass.invariant.0 st (let l = told.1 in omega arith) told.0 told.4,
  drawn_tied c.pass.inside.seat.me.0 c.fetch_add-version.new.seat.me.0 _ _ _ (c.fetch_add-version.result + 1) st (let l = told.2 in omega arith) c.pass.invariant.1 told.0,
  c.pass.invariant.2,
  c.pass.invariant.3,
  c.fetch_add-version.ensures.2.5 ∙ c.pass.invariant.4,
)

pub returns-clause-above : goal.returns-clause-above
returns-clause-above g c = draw_above _ _ c.fetch_add-version.result c.pass.view_is c.fetch_add-version.ensures.2.3

pub returns-clause-held_stand : goal.returns-clause-held_stand
returns-clause-held_stand g c = draw_held _ _ c.fetch_add-version.new.seat.me.0 c.fetch_add-version.result c.pass.view_is c.fetch_add-version.ensures.2.0 c.fetch_add-version.ensures.2.3

pub returns-clause-grows : goal.returns-clause-grows
returns-clause-grows g c = grows_by _ _ _ _ c.pass.view_is c.fetch_add-version.ensures.2.0 (grows_drawn _ _ (let l = c.fetch_add-version.ensures.2.1 in omega arith))

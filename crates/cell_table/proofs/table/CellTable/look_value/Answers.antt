use Rattle.std.proofs.Common.{◌∙◌, arith, refl, ◌≡◌}
use Rattle.cell_table.specs.Steps.{valued}
use Rattle.cell_table.proofs.ValueLoad.{loads}
use Rattle.cell_table.proofs.Passes.{grows_valued, pass_by, tied_by, same_table, cell_inside, at_value, value_of, grows_by}
use Rattle.cell_table.proofs.Attempts.{valued_second, valued_held}
use Rattle.cell_table.proofs.table.CellTable.look_value.Goals as goal

pub load-requires : goal.load-requires
load-requires g c = (
  same_table _ _ _ _ c.pass.view_is c.self.view_is c.requires.of.0,
  (let w = c.self.invariant.0 in let l = cell_inside _ _ c.args.cell c.self.view_is c.requires.cell in omega arith),
  loads g.M.Meaning.lawful g.M.Meaning.explains _ _ _ _ _ _ _ (cell_inside _ _ c.args.cell c.self.view_is c.requires.cell) c.pass.invariant.0.acting,
)

pub invariant_of-pass : goal.invariant_of-pass
invariant_of-pass g c = let told = c.load.ensures.2 in
    let is = at_value (λ z. c.load.new.seat.me.0 ≡ valued c.pass.inside.seat.me.0 z c.load.result) c.args.cell told.0 in (
      pass_by g.M.Meaning.lawful g.M.Meaning.explains _ _ (valued c.pass.inside.seat.me.0 c.args.cell c.load.result) _ _ c.pass.invariant.0 is (grows_valued _ _ _) refl refl told.1,
      tied_by _ _ (valued c.pass.inside.seat.me.0 c.args.cell c.load.result) _ _ _ c.pass.invariant.1 is refl refl refl,
      c.pass.invariant.2,
      c.pass.invariant.3,
      c.load.ensures.2.2 ∙ c.pass.invariant.4,
    )

pub returns-clause-view : goal.returns-clause-view
returns-clause-view g c = value_of _ _ _ _ c.args.cell c.load.result c.pass.view_is c.load.ensures.0 (at_value (λ z. c.load.new.seat.me.0 ≡ valued c.pass.inside.seat.me.0 z c.load.result) c.args.cell c.load.ensures.2.0)

pub returns-clause-second : goal.returns-clause-second
returns-clause-second g c = λ u st. valued_second _ _ c.load.new.seat.me.0 c.args.cell u c.load.result c.pass.view_is (at_value (λ z. c.load.new.seat.me.0 ≡ valued c.pass.inside.seat.me.0 z c.load.result) c.args.cell c.load.ensures.2.0) st

pub returns-clause-held_value : goal.returns-clause-held_value
returns-clause-held_value g c = λ u a st. valued_held _ _ c.load.new.seat.me.0 c.args.cell u c.load.result c.pass.view_is (at_value (λ z. c.load.new.seat.me.0 ≡ valued c.pass.inside.seat.me.0 z c.load.result) c.args.cell c.load.ensures.2.0) a st

pub returns-clause-grows : goal.returns-clause-grows
returns-clause-grows g c = grows_by _ _ _ _ c.pass.view_is (at_value (λ z. c.load.new.seat.me.0 ≡ valued c.pass.inside.seat.me.0 z c.load.result) c.args.cell c.load.ensures.2.0) (grows_valued _ _ _)

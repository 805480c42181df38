use Rattle.std.proofs.Common.{arith, ap, sym, ◌∙◌, ◌≡◌}
use Rattle.cell_table.specs.Steps.{next_put}
use Rattle.cell_table.specs.Pass.{TableState}
use Rattle.cell_table.proofs.LaterValueStore.{nexts}
use Rattle.cell_table.proofs.Passes.{cell_inside, at_value}
use Rattle.cell_table.proofs.table.CellTable.put_next.Goals as goal

pub store-requires : goal.store-requires
store-requires g c = (
  c.requires.table ∙ sym (ap (λ (z : TableState g.row.M.Denot). z.id) c.self.view_is),
  (let w = c.self.invariant.0 in let l = cell_inside _ _ c.args.cell c.self.view_is c.requires.cell in omega arith),
  nexts g.M.Meaning.lawful g.M.Meaning.explains _ _ _ _ _ c.args.cell _ _ (cell_inside _ _ c.args.cell c.self.view_is c.requires.cell) c.requires.acting c.requires.may,
)

pub returns-clause-view : goal.returns-clause-view
returns-clause-view g c = at_value (λ z. c.store.new.seat.me.0 ≡ next_put c.args.seat.now.me.0 z c.args.value) c.args.cell c.store.ensures.2.0

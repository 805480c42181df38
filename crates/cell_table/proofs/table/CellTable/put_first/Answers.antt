use Rattle.std.proofs.Common.{arith, ap, sym, ◌∙◌, ◌≡◌}
use Rattle.cell_table.specs.Steps.{first_put}
use Rattle.cell_table.specs.Seats.{record_of}
use Rattle.cell_table.specs.Pass.{TableState}
use Rattle.cell_table.proofs.ValueStore.{firsts}
use Rattle.cell_table.proofs.Passes.{cell_inside, at_value}
use Rattle.cell_table.proofs.table.CellTable.put_first.Goals as goal

pub store-requires : goal.store-requires
store-requires g c = (
  c.requires.table ∙ sym (ap (λ (z : TableState g.row.M.Denot). z.id) c.self.view_is),
  (let w = c.self.invariant.0 in let l = cell_inside _ _ c.args.cell c.self.view_is c.requires.cell in omega arith),
  rw (← c.requires.plan) (firsts g.M.Meaning.lawful g.M.Meaning.explains _ _ _ _ _ c.args.cell _ c.args.version (record_of c.args.plan.now) _ (cell_inside _ _ c.args.cell c.self.view_is c.requires.cell) c.requires.drawn.0 c.requires.acting c.requires.drawn.1 c.requires.held c.requires.value.0 c.requires.value.1),
)

pub returns-clause-view : goal.returns-clause-view
returns-clause-view g c = at_value (λ z. c.store.new.seat.me.0 ≡ first_put c.args.seat.now.me.0 c.args.version (record_of c.args.plan.now) z c.args.value) c.args.cell (rw c.requires.plan (c.store.ensures.2.0 c.args.version c.requires.drawn.0))

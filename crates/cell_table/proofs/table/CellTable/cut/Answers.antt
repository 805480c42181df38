use Rattle.std.proofs.Common.{arith, ap, sym, ◌∙◌}
use Rattle.cell_table.specs.Pass.{TableState}
use Rattle.cell_table.proofs.SeatMove.{splits}
use Rattle.cell_table.proofs.table.CellTable.cut.Goals as goal

pub split_seat-requires : goal.split_seat-requires
split_seat-requires g c = (
  c.requires.table ∙ sym (ap (λ (z : TableState g.row.M.Denot). z.id) c.self.view_is),
  (let w = c.self.invariant.0 in omega arith),
  rw (c.requires.share.0, c.requires.share.1) (splits g.M.Meaning.lawful g.M.Meaning.explains _ _ _ _ _ _ _ c.requires.idle c.requires.callers.0 c.requires.callers.1 c.requires.draws),
)

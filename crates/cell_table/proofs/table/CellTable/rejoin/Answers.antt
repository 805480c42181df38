use Rattle.std.proofs.Common.{arith, ap, sym, ◌∙◌}
use Rattle.atomic_table.specs.Table.{Me}
use Rattle.cell_table.specs.declared.view.View.{View}
use Rattle.cell_table.specs.Pass.{TableState}
use Rattle.cell_table.proofs.SeatMove.{joins}
use Rattle.cell_table.proofs.ClockLoad.{clocks}
use Rattle.cell_table.proofs.SplitJoin.{both_some, rejoined}
use Rattle.cell_table.proofs.table.CellTable.rejoin.Goals as goal

pub join_seat-requires : goal.join_seat-requires
join_seat-requires g c = (
  c.requires.table.0 ∙ sym (ap (λ (z : TableState g.row.M.Denot). z.id) c.self.view_is),
  c.requires.table.1 ∙ sym (ap (λ (z : TableState g.row.M.Denot). z.id) c.self.view_is),
  c.requires.empty.1,
  (let w = c.self.invariant.0 in omega arith),
  joins g.M.Meaning.lawful g.M.Meaning.explains _ _ _ _ _ _ _ c.requires.idle.0 c.requires.idle.1 c.requires.acting,
)

pub load-requires : goal.load-requires
load-requires g c = (
  c.join_seat.ensures.0 ∙ (c.requires.table.0 ∙ sym (ap (λ (z : TableState g.row.M.Denot). z.id) c.self.view_is)),
  (let w = c.self.invariant.0 in omega arith),
  clocks g.M.Meaning.lawful g.M.Meaning.explains _ _ _ _ _ _ (both_some c.args.seat.now.me.0 c.args.other.me.0 c.join_seat.new.seat.me.0 (ap (λ (z : Me _ (View g.row.M.Denot g.row.M-Done.Denot)). z.0) c.join_seat.ensures.2) c.requires.acting),
)

pub returns-clause-seat : goal.returns-clause-seat
returns-clause-seat g c = (c.load.ensures.0 ∙ c.join_seat.ensures.0, c.load.ensures.2.5 ∙ (ap (λ (z : Me _ (View g.row.M.Denot g.row.M-Done.Denot)). z.1) c.join_seat.ensures.2 ∙ c.requires.empty.0))

pub returns-clause-view : goal.returns-clause-view
returns-clause-view g c = (rejoined c.args.seat.now.me.0 c.args.other.me.0 c.join_seat.new.seat.me.0 c.load.new.seat.me.0 c.load.result (ap (λ (z : Me _ (View g.row.M.Denot g.row.M-Done.Denot)). z.0) c.join_seat.ensures.2) c.load.ensures.2.0 c.load.ensures.2.1).0

pub returns-clause-later : goal.returns-clause-later
returns-clause-later g c = let t = rejoined c.args.seat.now.me.0 c.args.other.me.0 c.join_seat.new.seat.me.0 c.load.new.seat.me.0 c.load.result (ap (λ (z : Me _ (View g.row.M.Denot g.row.M-Done.Denot)). z.0) c.join_seat.ensures.2) c.load.ensures.2.0 c.load.ensures.2.1 in (t.1, t.2)

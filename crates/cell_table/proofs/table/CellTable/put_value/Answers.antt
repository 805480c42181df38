use Rattle.std.proofs.Common.{arith, refl, ap, sym, ◌∙◌}
use Rattle.cell_table.specs.Seats.{plan_of, record_of, reserved_in, noted_books}
use Rattle.cell_table.proofs.Attempts.{held_now, put_may, put_may_next, put_planned, put_first_pass, put_next_pass, first_tied, next_tied, roomy_pass, entry_noted, none_from}
use Rattle.cell_table.proofs.Passes.{grows_first_put, grows_next_put, grows_by}
use Rattle.cell_table.proofs.table.CellTable.put_value.Goals as goal

pub mark_stored-requires-clause-held : goal.mark_stored-requires-clause-held
mark_stored-requires-clause-held g c = held_now _ _ _ _ _ c.args.cell c.pass.view_is c.pass.invariant.1 c.requires.held

pub invariant_of-pass : goal.invariant_of-pass
invariant_of-pass g c = let was = none_from c.pass.inside.plan c.if-is_none.ensures in let may = put_may_next _ _ c.pass.inside.plan c.args.cell c.args.value c.pass.view_is refl was c.requires.planned in (
  roomy_pass g.M.Meaning.lawful g.M.Meaning.explains _ _ _ _ (put_next_pass g.M.Meaning.lawful g.M.Meaning.explains _ c.put_next.new.seat.me.0 c.put_next.new.seat.table_id c.args.cell c.args.value (plan_of c.pass.inside.plan) c.pass.invariant.0 refl may c.put_next.ensures.view c.put_next.ensures.legal) (omega arith) refl,
  next_tied c.pass.inside.seat.me.0 c.put_next.new.seat.me.0 _ _ _ _ c.args.cell c.args.value c.pass.invariant.1 may c.put_next.ensures.view c.mark_stored.ensures.items,
  c.pass.invariant.2,
  (let a = c.mark_stored.ensures.len in let b = c.mark_stored.ensures.capacity in let f = c.pass.invariant.3 in omega arith),
  c.put_next.ensures.seat.1 ∙ c.pass.invariant.4,
)

pub invariant_of-pass-2 : goal.invariant_of-pass-2
invariant_of-pass-2 g c = let was = sym c.take.ensures.value ∙ c.in-Some.is in let may = put_may _ _ c.pass.inside.plan c.in-Some.plan c.args.cell c.args.value c.pass.view_is refl was c.requires.planned in
    let planned = put_planned g.M.Meaning.explains _ _ c.pass.inside.plan c.in-Some.plan c.pass.inside.drawn c.pass.view_is refl was c.pass.invariant.0.planned c.pass.invariant.1.drawn in (
      roomy_pass g.M.Meaning.lawful g.M.Meaning.explains _ _ _ _ (put_first_pass g.M.Meaning.lawful g.M.Meaning.explains _ c.put_first.new.seat.me.0 c.put_first.new.seat.table_id c.pass.inside.drawn c.args.cell c.args.value (reserved_in c.add_entry.new.ledgers.items) (record_of c.in-Some.plan) (noted_books c.add_entry.new.ledgers.items) (plan_of c.take.new.self) c.pass.invariant.0 planned.0 may.0 c.put_first.ensures.view (entry_noted c.entry_of.result c.pass.inside.drawn c.in-Some.plan _ _ c.entry_of.ensures c.add_entry.ensures.books) (ap plan_of c.take.ensures.after) c.put_first.ensures.legal) (omega arith) refl,
      first_tied c.pass.inside.seat.me.0 c.put_first.new.seat.me.0 _ _ _ _ c.pass.inside.drawn c.args.cell c.args.value (record_of c.in-Some.plan) c.pass.invariant.1 planned.0 c.put_first.ensures.view c.mark_stored.ensures.items,
      (let a = c.add_entry.ensures.capacity in let b = c.pass.invariant.2 in omega arith),
      (let a = c.mark_stored.ensures.len in let b = c.mark_stored.ensures.capacity in let f = c.pass.invariant.3 in omega arith),
      c.put_first.ensures.seat.1 ∙ c.pass.invariant.4,
    )

pub returns-then-is_none-clause-grows : goal.returns-then-is_none-clause-grows
returns-then-is_none-clause-grows g c = grows_by _ _ _ _ c.pass.view_is c.put_next.ensures.view (grows_next_put _ _ _)

pub returns-clause-grows : goal.returns-clause-grows
returns-clause-grows g c = grows_by _ _ _ _ c.pass.view_is c.put_first.ensures.view (grows_first_put _ _ _ _ _)

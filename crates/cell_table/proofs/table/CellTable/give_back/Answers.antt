use Rattle.std.proofs.Common.{arith, ap, refl, ◌∙◌, ◌≡◌, ◌*◌, ℕ}
use Rattle.cell_table.specs.Steps.{given}
use Rattle.cell_table.proofs.LockStore.{gives_word}
use Rattle.cell_table.proofs.Passes.{same_table, cell_inside, at_lock, grows_given, grows_by}
use Rattle.cell_table.proofs.Attempts.{held_now, held_view, stored_view, give_due, give_fits, given_pass, given_tied, given_of, given_trail, plan_gone}
use Rattle.cell_table.proofs.table.CellTable.give_back.Goals as goal

pub take_held-entry-requires-clause-held : goal.take_held-entry-requires-clause-held
take_held-entry-requires-clause-held g c = held_now _ _ _ _ _ c.args.cell c.pass.view_is c.pass.invariant.1 c.requires.held

pub overflow_mul-version : goal.overflow_mul-version
overflow_mul-version g c = let tied = c.pass.invariant.1 in let l = give_fits c.pass.inside.held.items c.pass.inside.drawn c.args.cell c.take_held-entry.result.version c.take_held-entry.result.stored tied.small (held_now _ _ _ _ _ c.args.cell c.pass.view_is tied c.requires.held) tied.fits c.take_held-entry.ensures.version in let e = c.due_version-version.ensures in omega arith

pub store-requires : goal.store-requires
store-requires g c = let tied = c.pass.invariant.1 in let due = give_due c.pass.inside.seat.me.0 c.pass.inside.held.items _ _ c.args.cell _ _ tied c.pass.invariant.0.written (stored_view _ _ c.pass.view_is c.requires.stored) (held_now _ _ _ _ _ c.args.cell c.pass.view_is tied c.requires.held) c.take_held-entry.ensures.stored c.take_held-entry.ensures.version in (
  same_table _ _ _ _ c.pass.view_is c.self.view_is c.requires.of.0,
  (let w = c.self.invariant.0 in let l = cell_inside _ _ c.args.cell c.self.view_is c.requires.cell in omega arith),
  gives_word g.M.Meaning.lawful g.M.Meaning.explains _ _ _ _ _ _ _ _ (ap (λ (z : ℕ). 2 * z) (c.due_version-version.ensures ∙ due)) (cell_inside _ _ c.args.cell c.self.view_is c.requires.cell) c.pass.invariant.0.acting (held_view _ _ c.args.cell c.pass.view_is c.requires.held) (stored_view _ _ c.pass.view_is c.requires.stored),
)

pub invariant_of-pass : goal.invariant_of-pass
invariant_of-pass g c = let tied = c.pass.invariant.1 in let is = at_lock (λ z. c.store.new.seat.me.0 ≡ given c.pass.inside.seat.me.0 z (2 * c.due_version-version.result)) c.args.cell c.store.ensures.2.0 in
    let left = given_tied c.pass.inside.seat.me.0 c.store.new.seat.me.0 _ _ _ _ c.args.cell _ tied is c.take_held-entry.ensures.items in (
      given_pass g.M.Meaning.lawful g.M.Meaning.explains _ _ _ c.args.cell _ _ _ c.pass.invariant.0 is (plan_gone c.pass.inside.seat.me.0 c.pass.inside.held.items c.take_held-entry.new.held.items c.args.cell c.as_slice.result.now _ c.pass.inside.plan c.pass.inside.plan tied.held c.take_held-entry.ensures.items c.as_slice.ensures.value c.drop_plan.ensures refl) c.store.ensures.2.1,
      left,
      c.pass.invariant.2,
      (let a = c.take_held-entry.ensures.len in let b = c.take_held-entry.ensures.capacity in let f = c.pass.invariant.3 in omega arith),
      c.store.ensures.2.2 ∙ c.pass.invariant.4,
    )

pub returns-clause-view : goal.returns-clause-view
returns-clause-view g c = let tied = c.pass.invariant.1 in let is = at_lock (λ z. c.store.new.seat.me.0 ≡ given c.pass.inside.seat.me.0 z (2 * c.due_version-version.result)) c.args.cell c.store.ensures.2.0 in
    let due = give_due c.pass.inside.seat.me.0 c.pass.inside.held.items _ _ c.args.cell _ _ tied c.pass.invariant.0.written (stored_view _ _ c.pass.view_is c.requires.stored) (held_now _ _ _ _ _ c.args.cell c.pass.view_is tied c.requires.held) c.take_held-entry.ensures.stored c.take_held-entry.ensures.version in
    given_of _ _ c.store.new.seat.me.0 _ c.args.cell _ _ _ c.pass.view_is c.store.ensures.0 is (ap (λ (z : ℕ). 2 * z) (c.due_version-version.ensures ∙ due)) (let a = c.take_held-entry.ensures.len in let b = c.take_held-entry.ensures.capacity in let f = c.pass.invariant.3 in omega arith)
    (plan_gone c.pass.inside.seat.me.0 c.pass.inside.held.items c.take_held-entry.new.held.items c.args.cell c.as_slice.result.now _ c.pass.inside.plan c.pass.inside.plan tied.held c.take_held-entry.ensures.items c.as_slice.ensures.value c.drop_plan.ensures refl)

pub returns-clause-step : goal.returns-clause-step
returns-clause-step g c = let tied = c.pass.invariant.1 in let is = at_lock (λ z. c.store.new.seat.me.0 ≡ given c.pass.inside.seat.me.0 z (2 * c.due_version-version.result)) c.args.cell c.store.ensures.2.0 in
    let due = give_due c.pass.inside.seat.me.0 c.pass.inside.held.items _ _ c.args.cell _ _ tied c.pass.invariant.0.written (stored_view _ _ c.pass.view_is c.requires.stored) (held_now _ _ _ _ _ c.args.cell c.pass.view_is tied c.requires.held) c.take_held-entry.ensures.stored c.take_held-entry.ensures.version in
    given_trail _ _ c.store.new.seat.me.0 c.args.cell _ c.pass.view_is is (ap (λ (z : ℕ). 2 * z) (c.due_version-version.ensures ∙ due))

pub returns-clause-grows : goal.returns-clause-grows
returns-clause-grows g c = grows_by _ _ _ _ c.pass.view_is (at_lock (λ z. c.store.new.seat.me.0 ≡ given c.pass.inside.seat.me.0 z (2 * c.due_version-version.result)) c.args.cell c.store.ensures.2.0) (grows_given _ _ _)

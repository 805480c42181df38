use Rattle.std.proofs.Common.{◌≡◌, ◌-◌, false, Some, None, length, take, inl, inr, refl, sym, ap, ◌∙◌, arith, length-take-le}
use Rattle.std.proofs.lemmas.Bool.{cases_Bool}
use Rattle.attempt_lists.specs.Levels.{merged}
use Rattle.tx_core.specs.declared.child.Mark.{Mark}
use Rattle.tx_core.specs.Children.{held_of}
use Rattle.tx_core.specs.Facts.{grew_more}
use Rattle.tx_core.proofs.HeldCells.{length_held_of}
use Rattle.tx_core.proofs.Nesting.{alone_merged, nested_alone}
use Rattle.tx_core.proofs.Backing.{attempt_back, provided_back}
use Rattle.tx_core.proofs.tx.Tx.back_to_mark.Goals as goal

some_none : {P : Type 0} {m : Mark} → Some m ≡ None → P
some_none e = cc

pub give_back_to-requires-clause-len : goal.give_back_to-requires-clause-len
give_back_to-requires-clause-len g c = (c.self.invariant.2.marked c.in-Some.mark c.in-Some.is).held

-- the parent's writes are left
pub invariant_of-self : goal.invariant_of-self
invariant_of-self g c =
    let under : merged c.drop_child.new.self ≡ c.self.inside.writes.parent = alone_merged c.drop_child.new.self c.drop_child.ensures.child ∙ c.drop_child.ensures.parent in
    let before : c.self.inside.committing ≡ false = elim (cases_Bool c.self.inside.committing) [
      | inl late ↦ some_none (sym c.in-Some.is ∙ c.self.invariant.2.before_commit late)
      | inr early ↦ early
    ] in (
      rw (under) (attempt_back _ _ c.self.inside.pass c.give_back_to.new.pass c.self.inside.reads c.truncate.new.self (merged c.self.inside.writes) c.self.inside.writes.parent c.self.inside.held c.give_back_to.new.held _ c.in-Some.mark _ before c.self.invariant.0 (c.self.invariant.2.marked c.in-Some.mark c.in-Some.is)
          c.give_back_to.ensures.of c.give_back_to.ensures.releases c.give_back_to.ensures.held c.give_back_to.ensures.entries c.truncate.ensures.observations c.truncate.ensures.versions),
      provided_back c.self.inside.pass c.give_back_to.new.pass c.self.inside.reads c.truncate.new.self c.self.inside.writes c.drop_child.new.self c.self.inside.held c.give_back_to.new.held c.self.inside.additions c.back_to_mark.new.self _ _ c.self.invariant.1
          c.give_back_to.ensures.releases.places c.give_back_to.ensures.reserved c.truncate.ensures.reserved c.drop_child.ensures.reserved c.drop_child.ensures.parent c.drop_child.ensures.child c.back_to_mark.ensures.waiting c.back_to_mark.ensures.marked,
      nested_alone _ _ _ _ _ _ _ _ refl refl c.drop_child.ensures.child,
    )

pub returns : goal.returns
returns g c =
    let under : merged c.drop_child.new.self ≡ c.self.inside.writes.parent = alone_merged c.drop_child.new.self c.drop_child.ensures.child ∙ c.drop_child.ensures.parent in
    let k = c.self.invariant.2.marked c.in-Some.mark c.in-Some.is in
    let locked : length c.self.inside.pass.view.held ≡ length c.self.inside.held.entries = ap length c.self.invariant.0.listed ∙ length_held_of c.self.inside.held.entries in
    let left : length (held_of (take c.in-Some.mark.held c.self.inside.held.entries)) ≡ c.in-Some.mark.held = length_held_of (take c.in-Some.mark.held c.self.inside.held.entries) ∙ length-take-le c.in-Some.mark.held c.self.inside.held.entries k.held in
    rw (← c.self.view_is, c.in-Some.is) (record {
      is = rw (c.truncate.ensures.observations, c.truncate.ensures.versions, under, c.truncate-2.ensures.items) refl;
      additions = λ part. (c.back_to_mark.ensures.waiting part, c.back_to_mark.ensures.marked part);
      held = c.give_back_to.ensures.held ∙ ap held_of c.give_back_to.ensures.entries;
      pass = c.give_back_to.ensures.releases;
      steps = grew_more (length c.self.inside.held.entries - c.in-Some.mark.held) _ _ _ (omega (arith, locked, left)) c.give_back_to.ensures.steps;
    })

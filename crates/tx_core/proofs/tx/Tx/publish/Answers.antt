use Rattle.std.proofs.Common.{◌≡◌, length, sym, ap, ◌∙◌}
use Rattle.cell_table.specs.Pass.{PassState}
use Rattle.tx_core.specs.Tx.{Attempt}
use Rattle.tx_core.specs.Facts.{grows_trans, grew_trans}
use Rattle.tx_core.proofs.Looks.{each_from_places}
use Rattle.tx_core.proofs.Storing.{writes_some}
use Rattle.tx_core.proofs.Nesting.{drawn_alone}
use Rattle.tx_core.proofs.tx.Tx.publish.Goals as goal

-- what was observed stands just before the drawn place
pub store_all-requires-clause-drawn : goal.store_all-requires-clause-drawn
store_all-requires-clause-drawn g c =
    let checked = c.requires.checked in
    let drawn = ap (λ (a : Attempt _ _). a.pass.view.stage) c.self.view_is ∙ checked.1.0 in
    let writes : c.self.inside.writes.parent ≡ c.args.self.writes = sym (drawn_alone _ _ _ _ _ c.self.inside.writes _ _ _ checked.0 c.self.invariant.2 c.self.invariant.0.nothing_drawn drawn) ∙ ap (λ (a : Attempt _ _). a.writes) c.self.view_is in
    let pass = ap (λ (a : Attempt _ _). a.pass) c.self.view_is in
    let observations = ap (λ (a : Attempt _ _). a.observations) c.self.view_is in (
      checked.0,
      rw pass checked.1.0,
      record {
        explained = λ m is. rw (c.into_observations.ensures.observations, c.into_parent.ensures.entries, observations, writes, ap (λ (a : Attempt _ _). a.notes) c.self.view_is) (c.requires.explained m (ap (λ (s : PassState _ _). s.view.meaning) (sym pass) ∙ is));
        observed = rw (c.into_observations.ensures.observations) (each_from_places _ _ (λ i lt. ((c.self.invariant.0.observed i lt).there, rw (pass, observations) (checked.1.1 i (rw (← observations) lt)))));
      },
    )

pub store_all-requires-clause-ascending : goal.store_all-requires-clause-ascending
store_all-requires-clause-ascending g c = rw c.into_parent.ensures.entries c.into_parent.ensures.ascending

pub store_all-requires-clause-some : goal.store_all-requires-clause-some
store_all-requires-clause-some g c =
    let checked = c.requires.checked in
    let drawn = ap (λ (a : Attempt _ _). a.pass.view.stage) c.self.view_is ∙ checked.1.0 in
    let writes : c.self.inside.writes.parent ≡ c.args.self.writes = sym (drawn_alone _ _ _ _ _ c.self.inside.writes _ _ _ checked.0 c.self.invariant.2 c.self.invariant.0.nothing_drawn drawn) ∙ ap (λ (a : Attempt _ _). a.writes) c.self.view_is in
    rw (c.into_parent.ensures.entries, writes) c.requires.some_write

pub store_all-requires-clause-held : goal.store_all-requires-clause-held
store_all-requires-clause-held g c =
    let checked = c.requires.checked in
    let drawn = ap (λ (a : Attempt _ _). a.pass.view.stage) c.self.view_is ∙ checked.1.0 in
    let writes : c.self.inside.writes.parent ≡ c.args.self.writes = sym (drawn_alone _ _ _ _ _ c.self.inside.writes _ _ _ checked.0 c.self.invariant.2 c.self.invariant.0.nothing_drawn drawn) ∙ ap (λ (a : Attempt _ _). a.writes) c.self.view_is in
    rw (c.into_parent.ensures.entries, writes, ap (λ (a : Attempt _ _). a.pass) c.self.view_is) (λ d h. c.requires.all_held d (writes_some _ d h))

-- the record has what was observed, written and noted
pub returns-clause-record : goal.returns-clause-record
returns-clause-record g c =
    let checked = c.requires.checked in
    let drawn = ap (λ (a : Attempt _ _). a.pass.view.stage) c.self.view_is ∙ checked.1.0 in
    let writes : c.self.inside.writes.parent ≡ c.args.self.writes = sym (drawn_alone _ _ _ _ _ c.self.inside.writes _ _ _ checked.0 c.self.invariant.2 c.self.invariant.0.nothing_drawn drawn) ∙ ap (λ (a : Attempt _ _). a.writes) c.self.view_is in
    rw (sym writes, ap (λ (a : Attempt _ _). a.observations) (sym c.self.view_is), ap (λ (a : Attempt _ _). a.notes) (sym c.self.view_is), ap (λ (a : Attempt _ _). a.pass) (sym c.self.view_is), ← c.into_parent.ensures.entries, ← c.into_observations.ensures.observations) (c.give_back_all.ensures.gives.books ∙ c.store_all.ensures.stores.books)

pub returns-clause-grows : goal.returns-clause-grows
returns-clause-grows g c = rw (ap (λ (a : Attempt _ _). a.pass) (sym c.self.view_is)) (grows_trans _ _ _ c.store_all.ensures.stores.grows c.give_back_all.ensures.gives.grows)

pub returns-clause-steps : goal.returns-clause-steps
returns-clause-steps g c =
    let checked = c.requires.checked in
    let drawn = ap (λ (a : Attempt _ _). a.pass.view.stage) c.self.view_is ∙ checked.1.0 in
    let writes : c.self.inside.writes.parent ≡ c.args.self.writes = sym (drawn_alone _ _ _ _ _ c.self.inside.writes _ _ _ checked.0 c.self.invariant.2 c.self.invariant.0.nothing_drawn drawn) ∙ ap (λ (a : Attempt _ _). a.writes) c.self.view_is in
    rw (ap (λ (a : Attempt _ _). a.pass) (sym c.self.view_is), sym writes, ← c.into_parent.ensures.entries, ← c.store_all.ensures.stores.held)
    (grew_trans (length c.into_parent.result.items) (length c.store_all.new.pass.view.held) _ _ _ c.store_all.ensures.steps c.give_back_all.ensures.steps)

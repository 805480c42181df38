use Rattle.std.proofs.Common.{◌≡◌, length, slice_index, inl, inr, refl, ap, sym, ◌∙◌, arith}
use Rattle.std.proofs.lemmas.Bool.{cases_Bool}
use Rattle.cell_table.specs.Cells.{has}
use Rattle.cell_table.specs.Rule.{cells_of}
use Rattle.cell_table.specs.declared.view.Stage.TheVariants.{Open}
use Rattle.cell_table.specs.Pass.{PassState}
use Rattle.attempt_lists.specs.Cells.{cell_at, word_of}
use Rattle.tx_core.specs.Tx.{Attempt}
use Rattle.tx_core.specs.Seen.{KnowsMore}
use Rattle.tx_core.proofs.Looks.{stands_unheld, clocked_knows, knows_then_looks}
use Rattle.tx_core.specs.Facts.{goes_knows, observes_grows, grew_none, grew_trans}
use Rattle.tx_core.proofs.Found.{grew_step}
use Rattle.tx_core.proofs.Calling.{steps_by}
use Rattle.tx_core.proofs.AttemptFacts.{attempt_knows, attempt_commits}
use Rattle.tx_core.proofs.Providing.{provided_places, provided_commits}
use Rattle.tx_core.specs.declared.stop.TxState.TheVariants.{Running}
use Rattle.tx_core.specs.Children.{is_child}
use Rattle.tx_core.proofs.Nesting.{nested_free, unmarked, child_stopped}
use Rattle.tx_core.proofs.tx.Tx.check_now.Goals as goal

pub check-requires-clause-observed : goal.check-requires-clause-observed
check-requires-clause-observed g c =
    let knows = clocked_knows c.self.inside.pass c.clock-place.new.pass c.clock-place.result c.clock-place.ensures.view c.clock-place.ensures.later.1 in
    (attempt_knows _ _ c.self.inside.pass c.clock-place.new.pass _ _ _ _ knows c.clock-place.ensures.of c.self.invariant.0).observed

pub invariant_of-self : goal.invariant_of-self
invariant_of-self g c =
    let running : c.self.inside.state ≡ Running = ap (λ (a : Attempt _ _). a.state) c.self.view_is ∙ c.requires.running in
    let none = unmarked _ _ c.self.inside.mark _ _ _ _ _ (ap is_child running) c.self.invariant.2 in
    let knows = knows_then_looks _ _ _ (clocked_knows c.self.inside.pass c.clock-place.new.pass c.clock-place.result c.clock-place.ensures.view c.clock-place.ensures.later.1) c.in-Ok.ensures.looks in (
      attempt_knows _ _ c.self.inside.pass c.check.new.pass _ _ _ _ knows c.in-Ok.ensures.of (attempt_commits _ _ _ _ _ _ _ c.self.invariant.0),
      provided_places c.self.inside.pass c.check.new.pass _ _ _ _ _ _ (ap (λ (s : PassState _ _). s.places) knows.is) (provided_commits _ _ _ _ _ _ _ c.self.invariant.1),
      nested_free _ _ _ _ _ _ _ _ _ _ _ _ _ _ refl none (λ e. e) c.self.invariant.2,
    )

pub invariant_of-self-in-Err : goal.invariant_of-self-in-Err
invariant_of-self-in-Err g c =
    let running : c.self.inside.state ≡ Running = ap (λ (a : Attempt _ _). a.state) c.self.view_is ∙ c.requires.running in
    let none = unmarked _ _ c.self.inside.mark _ _ _ _ _ (ap is_child running) c.self.invariant.2 in
    let knows = knows_then_looks _ _ _ (clocked_knows c.self.inside.pass c.clock-place.new.pass c.clock-place.result c.clock-place.ensures.view c.clock-place.ensures.later.1) c.in-Err.ensures.looks in (
      attempt_knows _ _ c.self.inside.pass c.check.new.pass _ _ _ _ knows c.in-Err.ensures.of (attempt_commits _ _ _ _ _ _ _ c.self.invariant.0),
      provided_places c.self.inside.pass c.check.new.pass _ _ _ _ _ _ (ap (λ (s : PassState _ _). s.places) knows.is) (provided_commits _ _ _ _ _ _ _ c.self.invariant.1),
      nested_free _ _ _ _ _ _ _ _ _ _ _ _ _ _ (ap is_child c.stopped-self-inside.ensures ∙ child_stopped _) none (λ e. e) c.self.invariant.2,
    )

pub returns-in-Ok-clause-knows : goal.returns-in-Ok-clause-knows
returns-in-Ok-clause-knows g c = rw (ap (λ (a : Attempt _ _). a.pass) (sym c.self.view_is)) (knows_then_looks _ _ _ (clocked_knows c.self.inside.pass c.clock-place.new.pass c.clock-place.result c.clock-place.ensures.view c.clock-place.ensures.later.1) c.in-Ok.ensures.looks)

pub returns-in-Err-clause-knows : goal.returns-in-Err-clause-knows
returns-in-Err-clause-knows g c = rw (ap (λ (a : Attempt _ _). a.pass) (sym c.self.view_is)) (knows_then_looks _ _ _ (clocked_knows c.self.inside.pass c.clock-place.new.pass c.clock-place.result c.clock-place.ensures.view c.clock-place.ensures.later.1) c.in-Err.ensures.looks)

-- a held cell stands at the clock by the load itself, and the others by the validation
pub returns-in-Ok-clause-check : goal.returns-in-Ok-clause-check
returns-in-Ok-clause-check g c = rw (← c.self.view_is) (λ i lt.
    let seen = c.self.invariant.0.observed i lt in
    let cell = cell_at c.self.inside.reads.observations i in
    let known : c.clock-place.new.pass.view.known ≡ c.clock-place.result = ap (λ (s : PassState _ _). s.view.known) c.clock-place.ensures.view in
    let held : c.clock-place.new.pass.view.held ≡ c.self.inside.pass.view.held = ap (λ (s : PassState _ _). s.view.held) c.clock-place.ensures.view in
    let stage : c.self.inside.pass.view.stage ≡ Open = ap (λ (a : Attempt _ _). a.pass.view.stage) c.self.view_is ∙ c.requires.undrawn in
    let knows : KnowsMore c.self.inside.pass c.clock-place.new.pass = clocked_knows c.self.inside.pass c.clock-place.new.pass c.clock-place.result c.clock-place.ensures.view c.clock-place.ensures.later.1 in
    elim (cases_Bool (has cell (cells_of c.self.inside.pass.view.held))) [
      | inl mine ↦ observes_grows _ _ _ _ _ c.in-Ok.ensures.looks.1.grows (c.clock-place.ensures.held_stand stage cell (slice_index c.self.inside.reads.versions i) (word_of c.self.inside.reads.observations i) (c.self.invariant.0.pinned i lt mine) seen.reads)
      | inr free ↦ (
        slice_index c.self.inside.reads.versions i,
        c.clock-place.new.pass.view.known,
        c.in-Ok.ensures.looks.1.grows.values _ (knows.grows.values _ seen.reads),
        c.in-Ok.ensures.ok i lt (rw held free),
        omega (arith, (stands_unheld _ _ _ _ _ seen free).low, c.self.invariant.0.begun.1, c.clock-place.ensures.later.1),
        omega (arith, known),
      )
    ])

pub returns-in-Ok-clause-does : goal.returns-in-Ok-clause-does
returns-in-Ok-clause-does g c =
    let knows = knows_then_looks _ _ _ (clocked_knows c.self.inside.pass c.clock-place.new.pass c.clock-place.result c.clock-place.ensures.view c.clock-place.ensures.later.1) c.in-Ok.ensures.looks in
    steps_by _ _ _ _ (ap (λ (a : Attempt _ _). a.version) c.self.view_is) (ap (λ (a : Attempt _ _). a.observations) c.self.view_is) (ap (λ (a : Attempt _ _). a.writes) c.self.view_is) (knows.held ∙ ap (λ (a : Attempt _ _). a.pass.view.held) c.self.view_is)
    (rw (ap (λ (a : Attempt _ _). a.pass) (sym c.self.view_is)) (goes_knows _ _ knows))
    (rw (ap (λ (a : Attempt _ _). a.pass) (sym c.self.view_is), ap (λ (a : Attempt _ _). a.observations) (sym c.self.view_is)) (grew_trans 1 (length c.self.inside.reads.observations) _ _ _ (grew_step 0 _ _ _ _ (grew_none _) c.clock-place.ensures.step) c.in-Ok.ensures.steps))

pub returns-in-Err-clause-does : goal.returns-in-Err-clause-does
returns-in-Err-clause-does g c =
    let knows = knows_then_looks _ _ _ (clocked_knows c.self.inside.pass c.clock-place.new.pass c.clock-place.result c.clock-place.ensures.view c.clock-place.ensures.later.1) c.in-Err.ensures.looks in
    steps_by _ _ _ _ (ap (λ (a : Attempt _ _). a.version) c.self.view_is) (ap (λ (a : Attempt _ _). a.observations) c.self.view_is) (ap (λ (a : Attempt _ _). a.writes) c.self.view_is) (knows.held ∙ ap (λ (a : Attempt _ _). a.pass.view.held) c.self.view_is)
    (rw (ap (λ (a : Attempt _ _). a.pass) (sym c.self.view_is)) (goes_knows _ _ knows))
    (rw (ap (λ (a : Attempt _ _). a.pass) (sym c.self.view_is), ap (λ (a : Attempt _ _). a.observations) (sym c.self.view_is)) (grew_trans 1 (length c.self.inside.reads.observations) _ _ _ (grew_step 0 _ _ _ _ (grew_none _) c.clock-place.ensures.step) c.in-Err.ensures.steps))

use Rattle.std.proofs.Common.{◌≡◌, ◌≢◌, ℕ, ◌-◌, ◌<◌, [], length, slice_index, inl, inr, refl, ap, sym, ◌∙◌, arith}
use Rattle.std.proofs.lemmas.Bool.{cases_Bool}
use Rattle.cell_table.specs.Cells.{has}
use Rattle.cell_table.specs.Rule.{cells_of}
use Rattle.cell_table.specs.declared.view.View.{View}
use Rattle.cell_table.specs.Steps.{Grows, Observes}
use Rattle.cell_table.specs.Pass.{PassState}
use Rattle.attempt_lists.specs.Cells.{cell_at, word_of}
use Rattle.tx_core.specs.Tx.{Attempt}
use Rattle.tx_core.specs.Facts.{grows_trans, observes_grows}
use Rattle.tx_core.proofs.Looks.{drawn_grows, stands_unheld}
use Rattle.tx_core.proofs.Providing.{provided_places, provided_commits}
use Rattle.tx_core.proofs.AttemptFacts.{attempt_looks, attempt_commits, attempt_draws}
use Rattle.tx_core.specs.declared.stop.TxState.TheVariants.{Running}
use Rattle.tx_core.specs.Children.{is_child}
use Rattle.tx_core.proofs.Nesting.{nested_free, unmarked, child_stopped}
use Rattle.tx_core.proofs.tx.Tx.draw_and_check.Goals.{In-Ok}
use Rattle.tx_core.proofs.tx.Tx.draw_and_check.Goals as goal

-- the draw keeps what was observed
pub check_drawn-requires-clause-observed : goal.check_drawn-requires-clause-observed
check_drawn-requires-clause-observed g c =
    let some : c.self.inside.pass.view.held ≢ [] = λ none. c.requires.holds (ap (λ (a : Attempt _ _). a.pass.view.held) (sym c.self.view_is) ∙ none) in
    let drew = attempt_draws _ _ c.self.inside.pass c.draw-drawn.new.pass _ _ _ c.draw-drawn.result (attempt_commits _ _ _ _ _ _ _ c.self.invariant.0) c.draw-drawn.ensures.view c.draw-drawn.ensures.of c.draw-drawn.ensures.later.1 some in
    drew.observed

pub invariant_of-self : goal.invariant_of-self
invariant_of-self g c =
    let running : c.self.inside.state ≡ Running = ap (λ (a : Attempt _ _). a.state) c.self.view_is ∙ c.requires.running in
    let none = unmarked _ _ c.self.inside.mark _ _ _ _ _ (ap is_child running) c.self.invariant.2 in
    let some : c.self.inside.pass.view.held ≢ [] = λ none. c.requires.holds (ap (λ (a : Attempt _ _). a.pass.view.held) (sym c.self.view_is) ∙ none) in
    let drew = attempt_draws _ _ c.self.inside.pass c.draw-drawn.new.pass _ _ _ c.draw-drawn.result (attempt_commits _ _ _ _ _ _ _ c.self.invariant.0) c.draw-drawn.ensures.view c.draw-drawn.ensures.of c.draw-drawn.ensures.later.1 some in (
      attempt_looks _ _ c.draw-drawn.new.pass c.check_drawn.new.pass _ _ _ _ c.in-Ok.ensures.looks c.in-Ok.ensures.of drew,
      provided_places c.self.inside.pass c.check_drawn.new.pass _ _ _ _ _ _ (ap (λ (s : PassState _ _). s.places) c.in-Ok.ensures.looks.0 ∙ ap (λ (s : PassState _ _). s.places) c.draw-drawn.ensures.view) (provided_commits _ _ _ _ _ _ _ c.self.invariant.1),
      nested_free _ _ _ _ _ _ _ _ _ _ _ _ _ _ refl none (λ e. e) c.self.invariant.2,
    )

pub invariant_of-self-in-Err : goal.invariant_of-self-in-Err
invariant_of-self-in-Err g c =
    let running : c.self.inside.state ≡ Running = ap (λ (a : Attempt _ _). a.state) c.self.view_is ∙ c.requires.running in
    let none = unmarked _ _ c.self.inside.mark _ _ _ _ _ (ap is_child running) c.self.invariant.2 in
    let some : c.self.inside.pass.view.held ≢ [] = λ none. c.requires.holds (ap (λ (a : Attempt _ _). a.pass.view.held) (sym c.self.view_is) ∙ none) in
    let drew = attempt_draws _ _ c.self.inside.pass c.draw-drawn.new.pass _ _ _ c.draw-drawn.result (attempt_commits _ _ _ _ _ _ _ c.self.invariant.0) c.draw-drawn.ensures.view c.draw-drawn.ensures.of c.draw-drawn.ensures.later.1 some in (
      attempt_looks _ _ c.draw-drawn.new.pass c.check_drawn.new.pass _ _ _ _ c.in-Err.ensures.looks c.in-Err.ensures.of drew,
      provided_places c.self.inside.pass c.check_drawn.new.pass _ _ _ _ _ _ (ap (λ (s : PassState _ _). s.places) c.in-Err.ensures.looks.0 ∙ ap (λ (s : PassState _ _). s.places) c.draw-drawn.ensures.view) (provided_commits _ _ _ _ _ _ _ c.self.invariant.1),
      nested_free _ _ _ _ _ _ _ _ _ _ _ _ _ _ (ap is_child c.stopped-self-inside.ensures ∙ child_stopped _) none (λ e. e) c.self.invariant.2,
    )

-- a held cell stands just before the draw by the draw itself, and the others by the validation
-- each observation stands just before the version that was drawn
standing : (g : _) (c : In-Ok g) → (i : ℕ) → i < length c.self.inside.reads.observations → Observes c.check_drawn.new.pass.view (cell_at c.self.inside.reads.observations i) (word_of c.self.inside.reads.observations i) (c.draw-drawn.result - 1)
standing g c i lt =
    let seen = c.self.invariant.0.observed i lt in
    let view = ap (λ (s : PassState _ _). s.view) c.draw-drawn.ensures.view in
    let held : c.draw-drawn.new.pass.view.held ≡ c.self.inside.pass.view.held = ap (λ (v : View _ _). v.held) view in
    let cell = cell_at c.self.inside.reads.observations i in
    elim (cases_Bool (has cell (cells_of c.self.inside.pass.view.held))) [
      | inl mine ↦ observes_grows _ _ _ _ _ c.in-Ok.ensures.looks.1.grows (c.draw-drawn.ensures.held_stand cell (slice_index c.self.inside.reads.versions i) (word_of c.self.inside.reads.observations i) (c.self.invariant.0.pinned i lt mine) seen.reads)
      | inr free ↦ c.in-Ok.ensures.ok i lt (rw held free)
    ]

pub returns-in-Ok-clause-drawn : goal.returns-in-Ok-clause-drawn
returns-in-Ok-clause-drawn g c = (
  (c.in-Ok.ensures.looks.1.stage ∙ ap (λ (s : PassState _ _). s.view.stage) c.draw-drawn.ensures.view, standing g c),
  omega (arith, c.self.invariant.0.begun.1, c.draw-drawn.ensures.later.1, ap (λ (a : Attempt _ _). a.version) c.self.view_is),
)

-- the draw and the looks only tell more
pub returns-in-Ok-clause-grows : goal.returns-in-Ok-clause-grows
returns-in-Ok-clause-grows g c =
    let view = ap (λ (s : PassState _ _). s.view) c.draw-drawn.ensures.view in
    let grown : Grows c.self.inside.pass.view c.draw-drawn.new.pass.view = rw view (drawn_grows c.self.inside.pass.view c.draw-drawn.result c.draw-drawn.ensures.later.1) in
    rw (ap (λ (a : Attempt _ _). a.pass) (sym c.self.view_is)) (grows_trans _ _ _ grown c.in-Ok.ensures.looks.1.grows)

pub returns-in-Err-clause-grows : goal.returns-in-Err-clause-grows
returns-in-Err-clause-grows g c =
    let view = ap (λ (s : PassState _ _). s.view) c.draw-drawn.ensures.view in
    let grown : Grows c.self.inside.pass.view c.draw-drawn.new.pass.view = rw view (drawn_grows c.self.inside.pass.view c.draw-drawn.result c.draw-drawn.ensures.later.1) in
    rw (ap (λ (a : Attempt _ _). a.pass) (sym c.self.view_is)) (grows_trans _ _ _ grown c.in-Err.ensures.looks.1.grows)

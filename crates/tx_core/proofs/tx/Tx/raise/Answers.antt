use Rattle.std.proofs.Common.{◌≡◌, ℕ, ◌<◌, false, length, slice_index, inl, inr, sym, ap, ◌∙◌, arith}
use Rattle.std.proofs.lemmas.Bool.{cases_Bool}
use Rattle.cell_table.specs.Cells.{has}
use Rattle.cell_table.specs.Rule.{cells_of}
use Rattle.cell_table.specs.Steps.{Validated}
use Rattle.cell_table.specs.Pass.{PassState}
use Rattle.attempt_lists.specs.Cells.{cell_at}
use Rattle.attempt_lists.specs.Levels.{merged}
use Rattle.tx_core.specs.declared.stop.TxState.TheVariants.{Running}
use Rattle.tx_core.specs.Children.{is_child}
use Rattle.tx_core.specs.Tx.{Attempt, IsAttempt}
use Rattle.tx_core.proofs.Looks.{observes_of, clocked_knows, knows_then_looks}
use Rattle.tx_core.proofs.AttemptFacts.{attempt_knows}
use Rattle.tx_core.proofs.Providing.{provided_places}
use Rattle.tx_core.proofs.Nesting.{nested_states}
use Rattle.tx_core.proofs.Backing.{attempt_raises, clocked_validates}
use Rattle.tx_core.proofs.tx.Tx.raise.Goals.{In-Ok}
use Rattle.tx_core.proofs.tx.Tx.raise.Goals as goal

pub check-requires-clause-observed : goal.check-requires-clause-observed
check-requires-clause-observed g c =
    (attempt_knows _ _ c.self.inside.pass c.clock-place.new.pass _ _ _ _ (clocked_knows c.self.inside.pass c.clock-place.new.pass c.clock-place.result c.clock-place.ensures.view c.clock-place.ensures.later.1) c.clock-place.ensures.of c.self.invariant.0).observed

-- each observation is the newest one at the clock: a held cell by the load itself, and the others by the validation
valid : (g : _) (c : In-Ok g) (i : ℕ) → i < length c.self.inside.reads.observations → Validated c.check.new.pass.view (cell_at c.self.inside.reads.observations i) (slice_index c.self.inside.reads.versions i) c.clock-place.result
valid g c i lt =
    let before : c.self.inside.committing ≡ false = ap (λ (a : Attempt _ _). a.committing) c.self.view_is ∙ c.requires.before_commit in
    let view = ap (λ (s : PassState _ _). s.view) c.clock-place.ensures.view in
    let held : c.clock-place.new.pass.view.held ≡ c.self.inside.pass.view.held = ap (λ (s : PassState _ _). s.view.held) c.clock-place.ensures.view in
    let known : c.clock-place.new.pass.view.known ≡ c.clock-place.result = ap (λ (s : PassState _ _). s.view.known) c.clock-place.ensures.view in
    elim (cases_Bool (has (cell_at c.self.inside.reads.observations i) (cells_of c.self.inside.pass.view.held))) [
      | inl mine ↦ c.in-Ok.ensures.looks.1.grows.validations _ (rw view (clocked_validates c.self.inside.pass.view _ _ c.clock-place.result (c.self.invariant.0.nothing_drawn before) (c.self.invariant.0.pinned i lt mine)))
      | inr free ↦ rw (← known) (c.in-Ok.ensures.ok i lt (rw held free))
    ]

raised : (g : _) (c : In-Ok g) → IsAttempt c.self.inside.table.now c.check.new.pass c.clock-place.result c.self.inside.reads (merged c.self.inside.writes) c.self.inside.held c.self.inside.committing
raised g c =
    let before : c.self.inside.committing ≡ false = ap (λ (a : Attempt _ _). a.committing) c.self.view_is ∙ c.requires.before_commit in
    let knows = knows_then_looks _ _ _ (clocked_knows c.self.inside.pass c.clock-place.new.pass c.clock-place.result c.clock-place.ensures.view c.clock-place.ensures.later.1) c.in-Ok.ensures.looks in
    let known : c.clock-place.new.pass.view.known ≡ c.clock-place.result = ap (λ (s : PassState _ _). s.view.known) c.clock-place.ensures.view in
    let seen : c.check.new.pass.seen ≡ c.self.inside.pass.seen = ap (λ (s : PassState _ _). s.seen) knows.is in
    attempt_raises _ c.self.inside.version c.check.new.pass c.self.inside.reads _ c.self.inside.held _ c.clock-place.result before
    (omega (arith, c.self.invariant.0.begun.1, c.clock-place.ensures.later.1)) (omega (arith, seen, c.clock-place.ensures.later.0), omega (arith, known, c.in-Ok.ensures.looks.1.known)) (valid g c)
    (attempt_knows _ _ c.self.inside.pass c.check.new.pass _ _ _ _ knows c.in-Ok.ensures.of c.self.invariant.0)

pub invariant_of-self : goal.invariant_of-self
invariant_of-self g c =
    let knows = knows_then_looks _ _ _ (clocked_knows c.self.inside.pass c.clock-place.new.pass c.clock-place.result c.clock-place.ensures.view c.clock-place.ensures.later.1) c.in-Ok.ensures.looks in
    (raised g c.before, provided_places c.self.inside.pass c.check.new.pass _ _ _ _ _ _ (ap (λ (s : PassState _ _). s.places) knows.is) c.self.invariant.1, c.self.invariant.2)

pub invariant_of-self-in-Err : goal.invariant_of-self-in-Err
invariant_of-self-in-Err g c =
    let knows = knows_then_looks _ _ _ (clocked_knows c.self.inside.pass c.clock-place.new.pass c.clock-place.result c.clock-place.ensures.view c.clock-place.ensures.later.1) c.in-Err.ensures.looks in
    let running : c.self.inside.state ≡ Running = ap (λ (a : Attempt _ _). a.state) c.self.view_is ∙ c.requires.running in (
      attempt_knows _ _ c.self.inside.pass c.check.new.pass _ _ _ _ knows c.in-Err.ensures.of c.self.invariant.0,
      provided_places c.self.inside.pass c.check.new.pass _ _ _ _ _ _ (ap (λ (s : PassState _ _). s.places) knows.is) c.self.invariant.1,
      nested_states _ c.self.inside.state _ _ _ _ _ _ _ (ap is_child (sym running)) c.self.invariant.2,
    )

pub returns-in-Ok-clause-stands : goal.returns-in-Ok-clause-stands
returns-in-Ok-clause-stands g c =
    let before : c.self.inside.committing ≡ false = ap (λ (a : Attempt _ _). a.committing) c.self.view_is ∙ c.requires.before_commit in
    rw (← c.self.view_is) (λ i lt. observes_of _ _ _ _ _ (((raised g c.before).observed i lt).stands ((raised g c.before).early before i lt)))

pub returns-in-Ok-clause-knows : goal.returns-in-Ok-clause-knows
returns-in-Ok-clause-knows g c = rw (ap (λ (a : Attempt _ _). a.pass) (sym c.self.view_is)) (knows_then_looks _ _ _ (clocked_knows c.self.inside.pass c.clock-place.new.pass c.clock-place.result c.clock-place.ensures.view c.clock-place.ensures.later.1) c.in-Ok.ensures.looks)

pub returns-in-Err-clause-knows : goal.returns-in-Err-clause-knows
returns-in-Err-clause-knows g c = rw (ap (λ (a : Attempt _ _). a.pass) (sym c.self.view_is)) (knows_then_looks _ _ _ (clocked_knows c.self.inside.pass c.clock-place.new.pass c.clock-place.result c.clock-place.ensures.view c.clock-place.ensures.later.1) c.in-Err.ensures.looks)

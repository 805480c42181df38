use Rattle.std.proofs.Common.{ap, sym, ◌∙◌}
use Rattle.cell_table.specs.Steps.{Observes}
use Rattle.cell_table.specs.Pass.{PassState}
use Rattle.tx_core.specs.Tx.{Attempt}
use Rattle.tx_core.proofs.Looks.{observes_of}
use Rattle.tx_core.specs.Facts.{goes_looks}
use Rattle.tx_core.proofs.Calling.{steps_by}
use Rattle.tx_core.proofs.AttemptFacts.{attempt_looks}
use Rattle.tx_core.proofs.Providing.{provided_places}
use Rattle.tx_core.proofs.tx.Tx.peek.Goals.{in-Ok, in-Err}
use Rattle.tx_core.proofs.tx.Tx.peek.Goals as goal

-- what was observed stands at the version
pub returns-in-Some-get-clause-stands : goal.returns-in-Some-get-clause-stands
returns-in-Some-get-clause-stands g c = λ free.
    let at = c.in-Some-get.ensures.3 in
    let seen = c.self.invariant.0.observed c.in-Some-get.ensures.2 at.in_range in
    let early = c.self.invariant.0.early (ap (λ (a : Attempt _ _). a.committing) c.self.view_is ∙ c.requires.callable.before_commit) c.in-Some-get.ensures.2 at.in_range in
    let stands : Observes c.self.inside.pass.view c.args.cell c.in-Some-get.seen.value c.self.inside.version = rw (← at.value, ← c.in-Some-get.ensures.0, ← at.cell) (observes_of _ _ _ _ _ (seen.stands early)) in
    rw (← c.self.view_is) stands

pub invariant_of-self : goal.invariant_of-self
invariant_of-self g c = (
  attempt_looks _ _ _ c.read_cell.new.pass _ _ _ _ c.read_cell.ensures.looks c.read_cell.ensures.of c.self.invariant.0,
  provided_places _ _ _ _ _ _ _ _ (ap (λ (s : PassState _ _). s.places) c.read_cell.ensures.looks.0) c.self.invariant.1,
  c.self.invariant.2,
)

pub returns-clause-stands : goal.returns-clause-stands
returns-clause-stands g c = λ free. elim c.match-read_cell.branch [
  | in-Ok w ↦ rw (w.result-is, ← c.self.view_is) (observes_of _ _ _ _ _ w.in-Ok.ensures.ok)
  | in-Err w ↦ rw w.result-is tt
]

pub returns-clause-does : goal.returns-clause-does
returns-clause-does g c =
    let looks = c.read_cell.ensures.looks in
    steps_by _ _ _ _ (ap (λ (a : Attempt _ _). a.version) c.self.view_is) (ap (λ (a : Attempt _ _). a.observations) c.self.view_is) (ap (λ (a : Attempt _ _). a.writes) c.self.view_is) (looks.1.held ∙ ap (λ (a : Attempt _ _). a.pass.view.held) c.self.view_is)
    (rw (ap (λ (a : Attempt _ _). a.pass) (sym c.self.view_is)) (goes_looks _ _ looks))
    (rw (ap (λ (a : Attempt _ _). a.pass) (sym c.self.view_is)) c.read_cell.ensures.steps)

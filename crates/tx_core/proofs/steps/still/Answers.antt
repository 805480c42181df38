use Rattle.std.proofs.Common.{◌≡◌, ◌≢◌, ℕ, ◌*◌, ◌/◌, ◌<◌, length, inl, inr, sym, ap, ◌∙◌, arith}
use Rattle.std.proofs.lemmas.Bool.{cases_lt}
use Rattle.cell_table.specs.Steps.{Validated}
use Rattle.cell_table.specs.Pass.{trail_of}
use Rattle.tx_core.proofs.Looks.{looked_is, looks_by}
use Rattle.tx_core.proofs.Newest.{newer_than}
use Rattle.tx_core.proofs.Found.{found_by_load}
use Rattle.tx_core.proofs.Stopped.{stopped_by}
use Rattle.tx_core.proofs.steps.still.Goals as goal

-- another free word has a version above the place up to which the observed one is the newest
above : (g : _) (c : goal.After-stop_at g) (u : ℕ) → c.look_lock-word.result ≡ 2 * u → c.args.version < u
above g c u is =
    let seen = c.requires.observed in
    let looks = looks_by c.args.pass.now c.look_lock-word.new.pass _ c.look_lock-word.ensures.view (looked_is _ _ _) in
    elim (cases_lt c.args.pass.now.view.known u) [
      | inl far ↦ omega (arith, seen.far, seen.near)
      | inr near ↦
          let asked : Validated c.look_lock-word.new.pass.view c.args.seen.cell c.args.seen.version seen.upto = looks.1.grows.validations _ seen.validated in
          let found : Validated c.look_lock-word.new.pass.view c.args.seen.cell u c.args.pass.now.view.known = c.look_lock-word.ensures.still u is near in
          let differ : c.args.seen.version ≢ u = λ same. c.if-word-seen.true (is ∙ ap (λ (w : ℕ). 2 * w) (sym same)) in
          omega (arith, seen.far, newer_than _ _ _ c.legal_law.ensures.legal _ _ _ _ _ asked found differ seen.near)
    ]

pub returns-then-word-seen-clause-cause : goal.returns-then-word-seen-clause-cause
returns-then-word-seen-clause-cause g c =
    stopped_by c.args.pass.now.view c.args.version (length (trail_of c.args.pass.now)) c.args.seen.cell c.look_lock-word.result (trail_of c.look_lock-word.new.pass) c.stop_at.result
    c.look_lock-word.ensures.word c.requires.free (found_by_load _ _ _ _ _ (omega arith) c.look_lock-word.ensures.step) c.stop_at.ensures.held c.stop_at.ensures.newer (above g c)

-- on a sole pass no version is above the place that the pass has seen
pub returns-then-word-seen-clause-sole : goal.returns-then-word-seen-clause-sole
returns-then-word-seen-clause-sole g c = λ alone seen.
    let word = c.look_lock-word.ensures.sole alone c.requires.free in
    absurd (omega (arith, word.0, word.1, above g c (c.look_lock-word.result / 2) (omega (arith, word.0))))

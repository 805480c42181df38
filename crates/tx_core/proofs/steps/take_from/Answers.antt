use Rattle.std.proofs.Common.{◌≡◌, ℕ, ◌*◌, ◌<◌, ◌≢◌, List, length, inl, inr, sym, ap, ◌∙◌, arith}
use Rattle.cell_table.specs.declared.view.Record.{Record}
use Rattle.cell_table.specs.Writers.{writers_in, newest_in}
use Rattle.std.proofs.lemmas.Bool.{cases_lt}
use Rattle.cell_table.specs.Steps.{Validated}
use Rattle.cell_table.specs.Pass.{PassState, trail_of}
use Rattle.tx_core.proofs.Looks.{missed_is, missed_validates}
use Rattle.tx_core.proofs.Newest.{newer_than}
use Rattle.tx_core.proofs.Found.{found_by_exchange}
use Rattle.tx_core.proofs.Stopped.{stopped_by}
use Rattle.tx_core.proofs.steps.take_from.Goals as goal

-- another free word has a version above the place up to which the one that was asked for is the newest
pub returns-in-Err-clause-cause : goal.returns-in-Err-clause-cause
returns-in-Err-clause-cause g c =
    let view = ap (λ (s : PassState _ _). s.view) c.in-Err.ensures.found.1 in
    let newest = c.requires.newest in
    let above : (u : ℕ) → c.in-Err.word ≡ 2 * u → c.args.version < u = λ u is. elim (cases_lt c.args.pass.now.view.known u) [
      | inl far ↦ omega (arith, newest.1, newest.2)
      | inr near ↦
          let asked : Validated c.take_lock.new.pass.view c.args.cell c.args.from newest.0 = rw view ((missed_is c.args.pass.now.view c.args.cell c.in-Err.word).grows.validations _ newest.3) in
          let found : Validated c.take_lock.new.pass.view c.args.cell u c.args.pass.now.view.known = rw view (missed_validates c.args.pass.now.view c.args.cell c.in-Err.word u is near) in
          let differ : c.args.from ≢ u = λ same. c.in-Err.ensures.found.0 (is ∙ ap (λ (w : ℕ). 2 * w) (sym same)) in
          omega (arith, newest.1, newer_than _ _ _ c.legal_law.ensures.legal _ _ _ _ _ asked found differ newest.2)
    ] in
    stopped_by c.args.pass.now.view c.args.version (length (trail_of c.args.pass.now)) c.args.cell c.in-Err.word (trail_of c.take_lock.new.pass) c.stop_at.result
    c.in-Err.ensures.found.2 c.requires.free (found_by_exchange _ _ _ _ _ (omega arith) c.in-Err.ensures.step) c.stop_at.ensures.held c.stop_at.ensures.newer above

-- a pass with every caller number finds the version that was the newest one
pub returns-in-Err-clause-sole : goal.returns-in-Err-clause-sole
returns-in-Err-clause-sole g c = λ sole low.
    let newest = c.requires.newest in
    let alone = c.alone_law.ensures sole in
    let known : newest_in (writers_in c.args.pass.now.books) c.args.cell ≡ c.args.from = ap (λ (ts : List (ℕ × Record _)). newest_in ts c.args.cell) (sym (alone.all newest.0 (omega (arith, low, newest.1)))) ∙ alone.newest c.args.cell c.args.from newest.0 newest.3 in
    let found : c.in-Err.word ≡ 2 * newest_in (writers_in c.args.pass.now.books) c.args.cell = (c.in-Err.ensures.sole sole c.requires.free).1 in
    absurd (c.in-Err.ensures.found.0 (found ∙ ap (λ (n : ℕ). 2 * n) known))

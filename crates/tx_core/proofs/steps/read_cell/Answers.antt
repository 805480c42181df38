use Rattle.std.proofs.Common.{◌≡◌, ℕ, ◌*◌, ◌<◌, ◌≢◌, length, length-append, false, inl, inr, sym, ap, subst, ◌∙◌, arith}
use Rattle.std.proofs.lemmas.Bool.{cases_lt}
use Rattle.cell_table.specs.Cells.{has}
use Rattle.cell_table.specs.Rule.{cells_of, callers_of}
use Rattle.cell_table.specs.declared.view.Event.{Event}
use Rattle.cell_table.specs.Steps.{Validated}
use Rattle.cell_table.specs.Pass.{trail_of}
use Rattle.tx_core.specs.Causes.{IsCausedAt}
use Rattle.tx_core.specs.Facts.{looks_trans}
use Rattle.tx_core.proofs.Looks.{looked_is, valued_is, looks_by}
use Rattle.tx_core.proofs.Newest.{newer_than}
use Rattle.tx_core.proofs.Found.{found_by_load}
use Rattle.tx_core.proofs.Stopped.{stopped_by}
use Rattle.tx_core.proofs.steps.read_cell.Goals as goal

pub returns-in_default-clause-cause : goal.returns-in_default-clause-cause
returns-in_default-clause-cause g c =
    (stopped_by c.args.pass.now.view c.args.version (length (trail_of c.args.pass.now)) c.args.cell c.look_lock-first.result (trail_of c.look_lock-first.new.pass) c.stop_at.result
    c.look_lock-first.ensures.word c.requires.free (found_by_load _ _ _ _ _ (omega arith) c.look_lock-first.ensures.step) c.stop_at.ensures.held c.stop_at.ensures.newer (λ u is. absurd (omega (arith, c.in_default.ensures))))

pub returns-then-version-found-clause-cause : goal.returns-then-version-found-clause-cause
returns-then-version-found-clause-cause g c =
    (stopped_by c.args.pass.now.view c.args.version (length (trail_of c.args.pass.now)) c.args.cell c.look_lock-first.result (trail_of c.look_lock-first.new.pass) c.stop_at-then-version-found.result
    c.look_lock-first.ensures.word c.requires.free (found_by_load _ _ _ _ _ (omega arith) c.look_lock-first.ensures.step) c.stop_at-then-version-found.ensures.held c.stop_at-then-version-found.ensures.newer (λ u is. omega (arith, c.in-Some.ensures.1)))

pub returns-clause-looks : goal.returns-clause-looks
returns-clause-looks g c =
    looks_trans _ _ _ (looks_trans _ _ _
    (looks_by c.args.pass.now c.look_lock-first.new.pass _ c.look_lock-first.ensures.view (looked_is _ _ _))
    (looks_by c.look_lock-first.new.pass c.look_value-value.new.pass _ c.look_value-value.ensures.view (valued_is _ _ _)))
    (looks_by c.look_value-value.new.pass c.look_lock-last.new.pass _ c.look_lock-last.ensures.view (looked_is _ _ _))

pub returns-then-last-first-clause-looks : goal.returns-then-last-first-clause-looks
returns-then-last-first-clause-looks g c =
    looks_trans _ _ _ (looks_trans _ _ _
    (looks_by c.args.pass.now c.look_lock-first.new.pass _ c.look_lock-first.ensures.view (looked_is _ _ _))
    (looks_by c.look_lock-first.new.pass c.look_value-value.new.pass _ c.look_value-value.ensures.view (valued_is _ _ _)))
    (looks_by c.look_value-value.new.pass c.look_lock-last.new.pass _ c.look_lock-last.ensures.view (looked_is _ _ _))

pub returns-then-last-first-clause-cause : goal.returns-then-last-first-clause-cause
returns-then-last-first-clause-cause g c =
    let one = looks_by c.args.pass.now c.look_lock-first.new.pass _ c.look_lock-first.ensures.view (looked_is _ _ _) in
    let two = looks_by c.look_lock-first.new.pass c.look_value-value.new.pass _ c.look_value-value.ensures.view (valued_is _ _ _) in
    let three = looks_by c.look_value-value.new.pass c.look_lock-last.new.pass _ c.look_lock-last.ensures.view (looked_is _ _ _) in
    let first : Validated c.look_lock-first.new.pass.view c.args.cell c.in-Some.found c.args.pass.now.view.known = c.look_lock-first.ensures.still c.in-Some.found c.in-Some.ensures.1 (omega (arith, c.requires.known)) in
    let kept : Validated c.look_lock-last.new.pass.view c.args.cell c.in-Some.found c.args.pass.now.view.known = three.1.grows.validations _ (two.1.grows.validations _ first) in
    let known : c.look_value-value.new.pass.view.known ≡ c.args.pass.now.view.known = two.1.known ∙ one.1.known in
    let above : (u : ℕ) → c.look_lock-last.result ≡ 2 * u → c.args.version < u = λ u is. elim (cases_lt c.args.pass.now.view.known u) [
      | inl far ↦ omega (arith, c.requires.known)
      | inr near ↦
          let last : Validated c.look_lock-last.new.pass.view c.args.cell u c.look_value-value.new.pass.view.known = c.look_lock-last.ensures.still u is (omega arith) in
          let differ : c.in-Some.found ≢ u = λ same. c.if-last-first.true (is ∙ ap (λ (w : ℕ). 2 * w) (sym same) ∙ sym c.in-Some.ensures.1) in
          omega (arith, c.requires.known, newer_than _ _ _ c.legal_law.ensures.legal _ _ _ _ _ kept last differ (omega arith))
    ] in
    let free : has c.args.cell (cells_of c.look_value-value.new.pass.view.held) ≡ false = rw (two.1.held, one.1.held) c.requires.free in
    let found = found_by_load (length (trail_of c.args.pass.now)) _ _ _ _ (omega (arith, ap length c.look_value-value.ensures.step, ap length c.look_lock-first.ensures.step, length-append {A = Event})) c.look_lock-last.ensures.step in
    subst (λ bs. IsCausedAt c.args.cell (callers_of bs) c.args.version (length (trail_of c.args.pass.now)) (trail_of c.look_lock-last.new.pass) c.stop_at-then-last-first.result) (two.1.books ∙ one.1.books)
    (stopped_by c.look_value-value.new.pass.view c.args.version (length (trail_of c.args.pass.now)) c.args.cell c.look_lock-last.result (trail_of c.look_lock-last.new.pass) c.stop_at-then-last-first.result
    c.look_lock-last.ensures.word free found c.stop_at-then-last-first.ensures.held c.stop_at-then-last-first.ensures.newer above)

-- the value is that of the version which both looks found
pub returns-clause-ok : goal.returns-clause-ok
returns-clause-ok g c =
    let one = looks_by c.args.pass.now c.look_lock-first.new.pass _ c.look_lock-first.ensures.view (looked_is _ _ _) in
    let two = looks_by c.look_lock-first.new.pass c.look_value-value.new.pass _ c.look_value-value.ensures.view (valued_is _ _ _) in
    let three = looks_by c.look_value-value.new.pass c.look_lock-last.new.pass _ c.look_lock-last.ensures.view (looked_is _ _ _) in
    let known : c.look_value-value.new.pass.view.known ≡ c.args.pass.now.view.known = two.1.known ∙ one.1.known in
    let last : c.look_lock-last.result ≡ 2 * c.in-Some.found = c.if-last-first.false ∙ c.in-Some.ensures.1 in
    record {
      there = rw (c.look_lock-last.ensures.of.2) c.requires.cell;
      reads = c.look_lock-last.ensures.read c.in-Some.found c.look_value-value.result last (c.look_value-value.ensures.second c.in-Some.found (c.look_lock-first.ensures.first c.in-Some.found c.in-Some.ensures.1));
      low = omega arith;
      small = omega (arith, c.in-Some.ensures.1, c.look_lock-first.type_inv);
      upto = c.look_value-value.new.pass.view.known;
      far = omega (arith, c.requires.known);
      near = omega (arith, three.1.known);
      validated = c.look_lock-last.ensures.still c.in-Some.found last (omega (arith, c.requires.known));
    }

use Rattle.std.proofs.Common.{◌≡◌, length, ◌∙◌, arith}
use Rattle.cell_table.specs.Steps.{Validated}
use Rattle.cell_table.specs.Pass.{trail_of}
use Rattle.tx_core.specs.Facts.{looks_trans}
use Rattle.tx_core.proofs.Looks.{looked_is, looks_by, looks_then_takes}
use Rattle.tx_core.proofs.Found.{found_by_load}
use Rattle.tx_core.proofs.Stopped.{stopped_by}
use Rattle.tx_core.proofs.steps.lock_cell.Goals as goal

pub returns-in_default-clause-cause : goal.returns-in_default-clause-cause
returns-in_default-clause-cause g c =
    stopped_by c.args.pass.now.view c.args.version (length (trail_of c.args.pass.now)) c.args.cell c.look_lock-word.result (trail_of c.look_lock-word.new.pass) c.stop_at.result
    c.look_lock-word.ensures.word c.requires.free (found_by_load _ _ _ _ _ (omega arith) c.look_lock-word.ensures.step) c.stop_at.ensures.held c.stop_at.ensures.newer (λ u is. absurd (omega (arith, c.in_default.ensures)))

pub returns-then-found-version-clause-cause : goal.returns-then-found-version-clause-cause
returns-then-found-version-clause-cause g c =
    stopped_by c.args.pass.now.view c.args.version (length (trail_of c.args.pass.now)) c.args.cell c.look_lock-word.result (trail_of c.look_lock-word.new.pass) c.stop_at-then-found-version.result
    c.look_lock-word.ensures.word c.requires.free (found_by_load _ _ _ _ _ (omega arith) c.look_lock-word.ensures.step) c.stop_at-then-found-version.ensures.held c.stop_at-then-found-version.ensures.newer (λ u is. omega (arith, c.in-Some.ensures.1))

pub returns-in-Ok-clause-takes : goal.returns-in-Ok-clause-takes
returns-in-Ok-clause-takes g c = looks_then_takes _ _ _ _ _ (looks_by c.args.pass.now c.look_lock-word.new.pass _ c.look_lock-word.ensures.view (looked_is _ _ _)) c.in-Ok.ensures.takes

-- the look found the newest version
pub returns-in-Ok-clause-version : goal.returns-in-Ok-clause-version
returns-in-Ok-clause-version g c =
    let one = looks_by c.args.pass.now c.look_lock-word.new.pass _ c.look_lock-word.ensures.view (looked_is _ _ _) in
    let known : c.take_from.new.pass.view.known ≡ c.args.pass.now.view.known = c.in-Ok.ensures.takes.known ∙ one.1.known in
    let first : Validated c.look_lock-word.new.pass.view c.args.cell c.in-Some.found c.args.pass.now.view.known = c.look_lock-word.ensures.still c.in-Some.found c.in-Some.ensures.1 (omega (arith, c.requires.known)) in
    (omega arith, omega (arith, c.in-Some.ensures.1, c.look_lock-word.type_inv), rw known (c.in-Ok.ensures.takes.grows.validations _ first))

pub returns-in-Err-clause-looks : goal.returns-in-Err-clause-looks
returns-in-Err-clause-looks g c = looks_trans _ _ _ (looks_by c.args.pass.now c.look_lock-word.new.pass _ c.look_lock-word.ensures.view (looked_is _ _ _)) c.in-Err.ensures.looks

use Rattle.std.proofs.Common.{◌≡◌, ◌*◌, ◌≤◌, length, length-append, ap, subst, arith}
use Rattle.cell_table.specs.declared.view.Event.{Event}
use Rattle.cell_table.specs.Rule.{callers_of}
use Rattle.cell_table.specs.Steps.{Validated}
use Rattle.cell_table.specs.Pass.{PassState, trail_of}
use Rattle.tx_core.specs.Causes.{FoundTwice, IsCausedAt, FoundSince}
use Rattle.tx_core.specs.Facts.{found_longer}
use Rattle.tx_core.proofs.Looks.{looked_is, looks_by, has_all_validation}
use Rattle.tx_core.proofs.Found.{found_by_load, found_by_exchange}
use Rattle.tx_core.proofs.Stopped.{stopped_twice}
use Rattle.tx_core.proofs.locks.lock_newest.Goals as goal

-- another caller held the cell
owned : (g : _) (c : goal.After-stop_at g) → IsCausedAt c.args.cell (callers_of c.args.pass.now.view.books) c.args.version (length (trail_of c.args.pass.now)) (trail_of c.look_lock-word.new.pass) c.stop_at.result × FoundTwice (length (trail_of c.args.pass.now)) (trail_of c.look_lock-word.new.pass) c.stop_at.result
owned g c =
    stopped_twice c.args.pass.now.view c.args.version (length (trail_of c.args.pass.now)) c.args.cell c.look_lock-word.result (trail_of c.look_lock-word.new.pass) c.stop_at.result
    c.look_lock-word.ensures.word c.requires.free (found_by_load _ _ _ _ _ (omega arith) c.look_lock-word.ensures.step) c.stop_at.ensures.held c.stop_at.ensures.newer (λ u is. absurd (omega (arith, c.in_default.ensures)))

pub returns-in_default-clause-cause : goal.returns-in_default-clause-cause
returns-in_default-clause-cause g c = (owned g c).0

pub returns-in_default-clause-twice : goal.returns-in_default-clause-twice
returns-in_default-clause-twice g c = (owned g c).1

-- the exchange found another version than the look, which can't be a lower one
newer : (g : _) (c : goal.After-stop_at-in-Err g) → IsCausedAt c.args.cell (callers_of c.args.pass.now.view.books) c.args.version (length (trail_of c.args.pass.now)) (trail_of c.take_lock.new.pass) c.stop_at-in-Err.result × FoundTwice (length (trail_of c.args.pass.now)) (trail_of c.take_lock.new.pass) c.stop_at-in-Err.result
newer g c =
    let looks = looks_by c.args.pass.now c.look_lock-word.new.pass _ c.look_lock-word.ensures.view (looked_is _ _ _) in
    let start = length (trail_of c.args.pass.now) in
    let old : c.look_lock-word.result ≡ 2 * c.in-Some.found = c.in-Some.ensures.1 in
    let look : FoundSince start (trail_of c.look_lock-word.new.pass) c.args.cell (2 * c.in-Some.found) = subst (FoundSince start (trail_of c.look_lock-word.new.pass) c.args.cell) old (found_by_load start _ _ _ _ (omega arith) c.look_lock-word.ensures.step) in
    let kept : FoundSince start (trail_of c.take_lock.new.pass) c.args.cell (2 * c.in-Some.found) = rw c.in-Err.ensures.step (found_longer start _ _ _ _ look) in
    let grown : start ≤ length (trail_of c.look_lock-word.new.pass) = omega (arith, ap length c.look_lock-word.ensures.step, length-append {A = Event}) in
    rw (← looks.1.books) (stopped_twice c.look_lock-word.new.pass.view c.args.version start c.args.cell c.in-Err.other (trail_of c.take_lock.new.pass) c.stop_at-in-Err.result
    c.in-Err.ensures.found.2 (rw looks.1.held c.requires.free) (found_by_exchange start _ _ _ _ grown c.in-Err.ensures.step) c.stop_at-in-Err.ensures.held c.stop_at-in-Err.ensures.newer
    (λ u is. (c.in-Some.found, omega (arith, is, old, c.in-Err.ensures.found.0, c.in-Err.ensures.never_falls u c.in-Some.found is (look.0, look.2)), kept)))

pub returns-in-Err-clause-cause : goal.returns-in-Err-clause-cause
returns-in-Err-clause-cause g c = (newer g c).0

pub returns-in-Err-clause-twice : goal.returns-in-Err-clause-twice
returns-in-Err-clause-twice g c = (newer g c).1

-- the look found the newest version
pub returns-in-Ok-clause-newest : goal.returns-in-Ok-clause-newest
returns-in-Ok-clause-newest g c = λ low.
    let first : Validated c.look_lock-word.new.pass.view c.args.cell c.in-Some.found c.args.pass.now.view.known = c.look_lock-word.ensures.still c.in-Some.found c.in-Some.ensures.1 low in
    rw (ap (λ (s : PassState _ _). s.view.validations) c.in-Ok.ensures.taken.0) (has_all_validation _ _ _ _ _ first)

use Rattle.std.proofs.Common.{◌≡◌, ◌+◌, refl, ap, arith}
use Rattle.tx_core.specs.Tx.{Attempt}
use Rattle.tx_core.specs.Facts.{steps_trans, found_at_in}
use Rattle.tx_core.specs.OneCell.{late_hold_is, locks_late, locks_looked, free_cell}
use Rattle.tx_core.specs.SequencePlaces.{placed_one, twice_at_cell}
use Rattle.tx_log.specs.Log.{sequence_of}
use Rattle.tx_log.proofs.part.LogPart.place_one.Goals as goal

pub returns-in-Ok-clause-placed : goal.returns-in-Ok-clause-placed
returns-in-Ok-clause-placed g c =
    let r = c.in-Ok.ensures in
    let old = c.args.tx.now in
    let mid = c.late_hold.new.self in
    let cell = c.args.self.now.end + 1 + c.args.place in
    let late = late_hold_is old mid cell _ (λ h. (r.already h).1) r.known r.observes in
    let written = c.write_reserved.ensures.written in
    placed_one (sequence_of c.args.self.now) old mid c.write_reserved.new.self cell c.args.value late r.leaves.does r.held
    (locks_late old mid cell (λ h. (r.already h).1) r.takes r.leaves.does.steps)
    (ap (λ (a : Attempt _ _). a.writes) written) (ap (λ (a : Attempt _ _). a.pass) written) (ap (λ (a : Attempt _ _). a.state) written)

pub returns-in-Ok-clause-does : goal.returns-in-Ok-clause-does
returns-in-Ok-clause-does g c = steps_trans _ 3 0 c.args.tx.now c.late_hold.new.self c.write_reserved.new.self c.in-Ok.ensures.leaves.does c.write_reserved.ensures.does

pub returns-in-Err-clause-stopped : goal.returns-in-Err-clause-stopped
returns-in-Err-clause-stopped g c =
    let r = c.in-Err.ensures in
    let cell = c.args.self.now.end + 1 + c.args.place in
    record {
      state = ap (λ (a : Attempt _ _). a.state) r.stopped.1;
      found = found_at_in (λ k. k ≡ cell) cell c.in-Err.stop refl r.stopped.0;
      cause = r.leaves.ends.cause;
      twice = twice_at_cell c.args.tx.now cell _ _ c.in-Err.stop r.stopped.0 r.twice;
      free = found_at_in _ cell c.in-Err.stop (free_cell c.args.tx.now cell (λ held. let no = (r.already held).0 in cc)) r.stopped.0;
      few = locks_looked 2 _ c.args.tx.now.pass c.late_hold.new.self.pass (omega arith) r.stopped.2.1.held r.steps;
    }

use Rattle.std.proofs.Common.{◌≡◌, ℕ, refl, ap, subst, arith}
use Rattle.tx_core.specs.Tx.{Attempt}
use Rattle.tx_core.specs.Calls.{StepsAt}
use Rattle.tx_core.specs.Facts.{steps_trans, found_at_in}
use Rattle.tx_core.specs.Sequences.{IsPlaced, IsStoppedAt}
use Rattle.tx_core.specs.OneCell.{late_hold_is, locks_late, locks_looked, free_cell}
use Rattle.tx_core.specs.SequencePlaces.{placed_one, twice_at_cell}
use Rattle.tx_queue.specs.Queue.{sequence_of}
use Rattle.tx_queue.proofs.part.QueuePart.place_one.Goals as goal

pub returns-in-Ok-clause-placed : goal.returns-in-Ok-clause-placed
returns-in-Ok-clause-placed g c =
    let r = c.in-Ok.ensures in
    let old = c.args.tx.now in
    let mid = c.late_hold.new.self in
    let new = c.write_reserved.new.self in
    let s = sequence_of c.args.self.now in
    let late = late_hold_is old mid c.next_cell-cell.result _ (λ h. (r.already h).1) r.known r.observes in
    let written = c.write_reserved.ensures.written in
    subst (λ (k : ℕ). IsPlaced s k c.args.value old new) c.next_cell-cell.ensures.next
    (placed_one s old mid new c.next_cell-cell.result c.args.value late r.leaves.does r.held
    (locks_late old mid c.next_cell-cell.result (λ h. (r.already h).1) r.takes r.leaves.does.steps)
    (ap (λ (a : Attempt _ _). a.writes) written) (ap (λ (a : Attempt _ _). a.pass) written) (ap (λ (a : Attempt _ _). a.state) written))

pub returns-in-Ok-clause-does : goal.returns-in-Ok-clause-does
returns-in-Ok-clause-does g c =
    let both = steps_trans _ 3 0 c.args.tx.now c.late_hold.new.self c.write_reserved.new.self c.in-Ok.ensures.leaves.does c.write_reserved.ensures.does in
    subst (λ (k : ℕ). StepsAt (λ c. c ≡ k) 3 c.args.tx.now c.write_reserved.new.self) c.next_cell-cell.ensures.next both

pub returns-in-Err-clause-does : goal.returns-in-Err-clause-does
returns-in-Err-clause-does g c = subst (λ (k : ℕ). StepsAt (λ c. c ≡ k) 3 c.args.tx.now c.late_hold.new.self) c.next_cell-cell.ensures.next c.in-Err.ensures.leaves.does

pub returns-in-Err-clause-stopped : goal.returns-in-Err-clause-stopped
returns-in-Err-clause-stopped g c =
    let r = c.in-Err.ensures in
    subst (λ (k : ℕ). IsStoppedAt (λ c. c ≡ k) c.args.tx.now c.late_hold.new.self c.in-Err.stop) c.next_cell-cell.ensures.next (record {
      state = ap (λ (a : Attempt _ _). a.state) r.stopped.1;
      found = found_at_in (λ (k : ℕ). k ≡ c.next_cell-cell.result) c.next_cell-cell.result c.in-Err.stop refl r.stopped.0;
      cause = r.leaves.ends.cause;
      twice = twice_at_cell c.args.tx.now c.next_cell-cell.result _ _ c.in-Err.stop r.stopped.0 r.twice;
      free = found_at_in _ c.next_cell-cell.result c.in-Err.stop (free_cell c.args.tx.now c.next_cell-cell.result (λ held. let no = (r.already held).0 in cc)) r.stopped.0;
      few = locks_looked 2 _ c.args.tx.now.pass c.late_hold.new.self.pass (omega arith) r.stopped.2.1.held r.steps;
    })

use Rattle.std.proofs.Common.{◌≡◌, [], ap, arith}
use Rattle.tx_core.specs.Tx.{Attempt}
use Rattle.tx_core.specs.Calls.{waiting}
use Rattle.tx_core.specs.SequencePlaces.{IsPlacing, placing_step, placing_ends, placing_stopped, placing_all_does, placing_stop, taken_before}
use Rattle.tx_queue.specs.Queue.{sequence_of}
use Rattle.tx_queue.proofs.Queues.{queue_places}
use Rattle.tx_queue.proofs.part.QueuePart.place_all.Goals as goal

pub place_one-requires-clause-room : goal.place_one-requires-clause-room
place_one-requires-clause-room g c =
    let before = taken_before (sequence_of c.args.self.now) c.args.end c.args.tx.now c.loop-value.tx c.loop-value.next _ _ c.loop-value.invariant c.in-Some.ensures.first.0 in
    omega (arith, before, c.requires.fits)

pub loop-value-preserved : goal.loop-value-preserved
loop-value-preserved g c =
    let r = c.in-Ok.ensures in
    let took = c.in-Some.ensures in
    placing_step (sequence_of c.args.self.now) c.args.end c.args.tx.now c.loop-value.tx c.take_later.new.self c.place_one.new.tx c.loop-value.next c.in-Some.value (queue_places c.args.self.now _ _ (omega (arith, c.limits_law.ensures, c.requires.part)) c.requires.fits) c.loop-value.invariant
    took.same took.first.0 took.first.1 r.placed r.same r.does r.used

pub returns-in-Err-clause-does : goal.returns-in-Err-clause-does
returns-in-Err-clause-does g c =
    let took = c.in-Some.ensures in
    placing_stopped (sequence_of c.args.self.now) c.args.end c.args.tx.now c.loop-value.tx c.take_later.new.self c.place_one.new.tx c.loop-value.next c.in-Some.value (queue_places c.args.self.now _ _ (omega (arith, c.limits_law.ensures, c.requires.part)) c.requires.fits) c.loop-value.invariant took.same took.first.0 c.in-Err.ensures.does

pub returns-in-Err-clause-stopped : goal.returns-in-Err-clause-stopped
returns-in-Err-clause-stopped g c =
    let took = c.in-Some.ensures in
    placing_stop (sequence_of c.args.self.now) c.args.end c.args.tx.now c.loop-value.tx c.take_later.new.self c.place_one.new.tx c.loop-value.next c.in-Some.value c.in-Err.stop (queue_places c.args.self.now _ _ (omega (arith, c.limits_law.ensures, c.requires.part)) c.requires.fits) c.loop-value.invariant took.same took.first.0 c.in-Err.ensures.stopped

pub returns-clause-settled : goal.returns-clause-settled
returns-clause-settled g c =
    let e = c.in_default.ensures.first in
    let w = c.write_reserved.ensures.written in
    let p : IsPlacing (sequence_of c.args.self.now) c.args.end c.args.tx.now c.take_later.new.self c.loop-value.next = rw (e.1) c.loop-value.invariant in
    let none : waiting c.args.self.now.part c.take_later.new.self ≡ [] = rw (e.1) e.0 in
    placing_ends (sequence_of c.args.self.now) c.args.end c.args.tx.now c.take_later.new.self c.write_reserved.new.self c.loop-value.next (queue_places c.args.self.now _ _ (omega (arith, c.limits_law.ensures, c.requires.part)) c.requires.fits) p none
    c.requires.held c.requires.found c.requires.fits
    (ap (λ (t : Attempt _ _). t.writes) w) (ap (λ (t : Attempt _ _). t.pass) w) (ap (λ (t : Attempt _ _). t.state) w) (ap (λ (t : Attempt _ _). t.additions) w) (ap (λ (t : Attempt _ _). t.observations) w)

pub returns-clause-does : goal.returns-clause-does
returns-clause-does g c =
    placing_all_does (sequence_of c.args.self.now) c.args.end c.args.tx.now c.loop-value.tx c.take_later.new.self c.write_reserved.new.self c.loop-value.next c.loop-value.invariant c.in_default.ensures.same c.write_reserved.ensures.does

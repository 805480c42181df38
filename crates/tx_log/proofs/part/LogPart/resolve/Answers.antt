use Rattle.std.proofs.Common.{◌≡◌, ◌+◌, ◌≤◌, true, refl, sym, ap, ◌∙◌, length, arith}
use Rattle.tx_core.specs.Tx.{Attempt}
use Rattle.tx_core.specs.Calls.{waiting}
use Rattle.tx_core.specs.SequenceFacts.{holds_end, makes_nothing, makes_placed, full_refused, end_refused, check_refused, place_refused, settled_all, placing_none, placing_unlocked, placing_checked, placing_placed}
use Rattle.tx_log.specs.Log.{IsLog, values_in, sequence_of}
use Rattle.tx_log.proofs.Sequence.{log_places, log_is_sequence}
use Rattle.tx_log.proofs.part.LogPart.resolve.Goals as goal

pub place_all-requires-clause-found : goal.place_all-requires-clause-found
place_all-requires-clause-found g c =
    let r = c.in-Ok.ensures in
    let e = holds_end (sequence_of c.args.self.now) c.args.tx.now c.late_hold.new.self c.in-Ok.shared r.already r.known r.observes r.takes r.value r.held r.leaves.does in
    e.is_known

pub returns-in-Ok-check_now-clause-refused : goal.returns-in-Ok-check_now-clause-refused
returns-in-Ok-check_now-clause-refused g c =
    let r = c.in-Ok.ensures in
    let log = c.args.self.now in
    let old = c.args.tx.now in
    let mid = c.late_hold.new.self in
    let new = c.check_now.new.self in
    let e = holds_end (sequence_of log) old mid c.in-Ok.shared r.already r.known r.observes r.takes r.value r.held r.leaves.does in
    let k = c.in-Ok-check_now.ensures in
    let sum : c.in-Ok.shared + c.pending-adding.result ≡ c.in-Ok.shared + length (waiting log.part old) = ap (λ n. c.in-Ok.shared + n) c.pending-adding.ensures in (
      refl,
      full_refused (sequence_of log) _ old mid new c.in-Ok.shared _ c.in-Ok.shared c.pending-adding.result e refl c.pending-adding.ensures (omega (arith, c.if-saturating_add-from.true))
          (makes_nothing (sequence_of log) (IsLog log) (values_in log) (log_is_sequence log) old mid new c.in-Ok.shared _ e (ap (λ (a : Attempt _ _). a.writes) k.same) (ap (λ (a : Attempt _ _). a.observations) k.same) (ap (λ (a : Attempt _ _). a.additions) k.same) c.laid_over_law.ensures.shows sum)
          k.place k.check k.does.steps k.knows.held k.same,
    )

pub returns-in-Err-check_now-clause-refused : goal.returns-in-Err-check_now-clause-refused
returns-in-Err-check_now-clause-refused g c =
    let r = c.in-Ok.ensures in
    let e = holds_end (sequence_of c.args.self.now) c.args.tx.now c.late_hold.new.self c.in-Ok.shared r.already r.known r.observes r.takes r.value r.held r.leaves.does in
    let k = c.in-Err-check_now.ensures in
    check_refused (sequence_of c.args.self.now) c.args.tx.now c.late_hold.new.self c.check_now.new.self c.in-Ok.shared c.in-Err-check_now.stop e (ap (λ (a : Attempt _ _). a.state) k.stopped.1) k.first k.cause k.knows.held
    (ap (λ (a : Attempt _ _). a.observations) k.stopped.1) k.does.steps

pub returns-in-Ok-place_all-clause-placed : goal.returns-in-Ok-place_all-clause-placed
returns-in-Ok-place_all-clause-placed g c =
    let r = c.in-Ok.ensures in
    let log = c.args.self.now in
    let e = holds_end (sequence_of log) c.args.tx.now c.late_hold.new.self c.in-Ok.shared r.already r.known r.observes r.takes r.value r.held r.leaves.does in
    let p = c.in-Ok-place_all.ensures in
    let fits : c.in-Ok.shared + length (waiting log.part c.args.tx.now) ≤ log.capacity = omega (arith, c.pending-adding.ensures, c.if-saturating_add-from.false) in
    makes_placed (sequence_of log) (IsLog log) (values_in log) (log_is_sequence log) c.args.tx.now c.late_hold.new.self c.place_all.new.tx c.in-Ok.shared (omega (arith, c.pending-adding.ensures, c.if-adding-eq0.false)) e p.settled p.does fits
    c.laid_over_law.ensures.shows c.laid_over_law.ensures.earlier c.laid_over_law-in-Ok-place_all.ensures.shows

pub returns-in-Ok-place_all-clause-settled : goal.returns-in-Ok-place_all-clause-settled
returns-in-Ok-place_all-clause-settled g c =
    let r = c.in-Ok.ensures in
    let e = holds_end (sequence_of c.args.self.now) c.args.tx.now c.late_hold.new.self c.in-Ok.shared r.already r.known r.observes r.takes r.value r.held r.leaves.does in
    settled_all (sequence_of c.args.self.now) c.args.tx.now c.late_hold.new.self c.place_all.new.tx c.in-Ok.shared e c.in-Ok-place_all.ensures.settled

pub returns-in-Err-place_all-clause-refused : goal.returns-in-Err-place_all-clause-refused
returns-in-Err-place_all-clause-refused g c =
    let r = c.in-Ok.ensures in
    let e = holds_end (sequence_of c.args.self.now) c.args.tx.now c.late_hold.new.self c.in-Ok.shared r.already r.known r.observes r.takes r.value r.held r.leaves.does in
    let p = c.in-Err-place_all.ensures in
    place_refused (sequence_of c.args.self.now) c.args.tx.now c.late_hold.new.self c.place_all.new.tx c.in-Ok.shared c.in-Err-place_all.stop e (log_places c.args.self.now _ _) p.does.touches p.stopped

pub returns-then-adding-eq0-clause-leaves : goal.returns-then-adding-eq0-clause-leaves
returns-then-adding-eq0-clause-leaves g c = placing_none (sequence_of c.args.self.now) c.args.tx.now

pub returns-in-Err-clause-refused : goal.returns-in-Err-clause-refused
returns-in-Err-clause-refused g c =
    let r = c.in-Err.ensures in
    end_refused (sequence_of c.args.self.now) c.args.tx.now c.late_hold.new.self c.in-Err.stop r.stopped.0 r.stopped.1 r.leaves.ends.cause r.twice
    (λ held. let no = (r.already held).0 in cc) r.stopped.2.1.held r.steps

pub returns-in-Err-clause-leaves : goal.returns-in-Err-clause-leaves
returns-in-Err-clause-leaves g c =
    let r = c.in-Err.ensures in
    placing_unlocked (sequence_of c.args.self.now) c.args.tx.now c.late_hold.new.self (omega (arith, c.pending-adding.ensures, c.if-adding-eq0.false)) r.stopped.1 r.leaves.does

pub returns-in-Ok-check_now-clause-leaves : goal.returns-in-Ok-check_now-clause-leaves
returns-in-Ok-check_now-clause-leaves g c =
    let r = c.in-Ok.ensures in
    let e = holds_end (sequence_of c.args.self.now) c.args.tx.now c.late_hold.new.self c.in-Ok.shared r.already r.known r.observes r.takes r.value r.held r.leaves.does in
    let k = c.in-Ok-check_now.ensures in
    placing_checked (sequence_of c.args.self.now) c.args.tx.now c.late_hold.new.self c.check_now.new.self c.in-Ok.shared (omega (arith, c.pending-adding.ensures, c.if-adding-eq0.false)) e (k.same ∙ ap (λ st. record c.late_hold.new.self { pass = c.check_now.new.self.pass; state = st; committing = true }) (sym (ap (λ (a : Attempt _ _). a.state) k.same))) k.does

pub returns-in-Err-check_now-clause-leaves : goal.returns-in-Err-check_now-clause-leaves
returns-in-Err-check_now-clause-leaves g c =
    let r = c.in-Ok.ensures in
    let e = holds_end (sequence_of c.args.self.now) c.args.tx.now c.late_hold.new.self c.in-Ok.shared r.already r.known r.observes r.takes r.value r.held r.leaves.does in
    let k = c.in-Err-check_now.ensures in
    placing_checked (sequence_of c.args.self.now) c.args.tx.now c.late_hold.new.self c.check_now.new.self c.in-Ok.shared (omega (arith, c.pending-adding.ensures, c.if-adding-eq0.false)) e (k.stopped.1 ∙ ap (λ st. record c.late_hold.new.self { pass = c.check_now.new.self.pass; state = st; committing = true }) (sym (ap (λ (a : Attempt _ _). a.state) k.stopped.1))) k.does

pub returns-in-Ok-place_all-clause-leaves : goal.returns-in-Ok-place_all-clause-leaves
returns-in-Ok-place_all-clause-leaves g c =
    let r = c.in-Ok.ensures in
    let e = holds_end (sequence_of c.args.self.now) c.args.tx.now c.late_hold.new.self c.in-Ok.shared r.already r.known r.observes r.takes r.value r.held r.leaves.does in
    let p = c.in-Ok-place_all.ensures in
    placing_placed (sequence_of c.args.self.now) c.args.tx.now c.late_hold.new.self c.place_all.new.tx c.in-Ok.shared (omega (arith, c.pending-adding.ensures, c.if-adding-eq0.false)) e p.same p.does p.others p.used

pub returns-in-Err-place_all-clause-leaves : goal.returns-in-Err-place_all-clause-leaves
returns-in-Err-place_all-clause-leaves g c =
    let r = c.in-Ok.ensures in
    let e = holds_end (sequence_of c.args.self.now) c.args.tx.now c.late_hold.new.self c.in-Ok.shared r.already r.known r.observes r.takes r.value r.held r.leaves.does in
    let p = c.in-Err-place_all.ensures in
    placing_placed (sequence_of c.args.self.now) c.args.tx.now c.late_hold.new.self c.place_all.new.tx c.in-Ok.shared (omega (arith, c.pending-adding.ensures, c.if-adding-eq0.false)) e p.same p.does p.others p.used

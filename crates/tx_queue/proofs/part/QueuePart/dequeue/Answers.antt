use Rattle.std.proofs.Common.{◌≡◌, ◌⊎◌, ◌<◌, ◌∙◌, List, inl, inr, Some, ap, arith}
use Rattle.store_layout.specs.States.{length_in}
use Rattle.tx_core.specs.Tx.{Attempt}
use Rattle.attempt_lists.specs.Parts.{Waiting, waiting_of}
use Rattle.tx_core.specs.Calls.{known, waiting}
use Rattle.tx_core.specs.OneCell.{holding_keeps}
use Rattle.tx_queue.proofs.Replies.{own_taken, own_rest, front_taken, own_holds, front_holds, front_alone}
use Rattle.tx_queue.proofs.part.QueuePart.dequeue.Goals as goal
use Rattle.tx_queue.proofs.part.QueuePart.dequeue.Goals.{then-length-eq0-via-then-length-eq0, then-length-eq0-via-else-length-eq0+then-self-eq0}

pub returns-then-length-eq0-clause-taken : goal.returns-then-length-eq0-clause-taken
returns-then-length-eq0-clause-taken g c =
    let r = c.in-Ok.ensures in
    let queue = c.args.self.now in
    let old = c.args.tx.now in
    let mid = c.hold.new.self in
    let new = c.take_later.new.self in
    let kept = holding_keeps old mid queue.end r.adds in
    let empty : (length_in c.in-Ok.end ≡ 0) ⊎ (queue.capacity ≡ 0) = elim c.then-length-eq0.branch [
      | then-length-eq0-via-then-length-eq0 w ↦ inl (omega (arith, c.head_and_length-length.ensures.length, w.if-length-eq0.true))
      | then-length-eq0-via-else-length-eq0+then-self-eq0 w ↦ inr (omega (arith, w.if-self-eq0.true))
    ] in
    let is_known : known mid queue.end ≡ Some c.in-Ok.end = rw kept.0 r.value in
    own_taken queue old mid new c.in-Ok.end c.take_later.result _ kept.0 kept.1 c.laid_over_law.ensures.shows is_known empty
    (ap (λ (a : Attempt _ _). a.writes) c.take_later.ensures.same) (ap (λ (a : Attempt _ _). a.observations) c.take_later.ensures.same) c.take_later.ensures.first

pub returns-then-length-eq0-clause-holds : goal.returns-then-length-eq0-clause-holds
returns-then-length-eq0-clause-holds g c = own_holds c.args.self.now c.args.tx.now c.hold.new.self c.take_later.new.self c.in-Ok.ensures.leaves c.take_later.ensures.same c.take_later.ensures.does

pub returns-in-Ok-take_first-clause-taken : goal.returns-in-Ok-take_first-clause-taken
returns-in-Ok-take_first-clause-taken g c =
    let r = c.in-Ok.ensures in
    let t = c.in-Ok-take_first.ensures in
    let queue = c.args.self.now in
    let old = c.args.tx.now in
    let mid = c.hold.new.self in
    let new = c.take_first.new.tx in
    let kept = holding_keeps old mid queue.end r.adds in
    let laid = c.laid_over_law.ensures in
    let is_known : known mid queue.end ≡ Some c.in-Ok.end = rw kept.0 r.value in
    let some : 0 < length_in c.in-Ok.end = omega (arith, c.head_and_length-length.ensures.length, c.if-length-eq0.false) in
    front_taken queue old mid new c.in-Ok.end c.in-Ok-take_first.value kept.0 kept.1 laid.shows laid.earlier laid.put is_known some t.holds.does.touches
    t.taken (ap (λ (a : Attempt _ _). a.additions) t.same) c.laid_over_law-in-Ok-take_first.ensures.shows t.value

pub returns-in-Ok-take_first-clause-holds : goal.returns-in-Ok-take_first-clause-holds
returns-in-Ok-take_first-clause-holds g c =
    let some : 0 < length_in c.in-Ok.end = omega (arith, c.head_and_length-length.ensures.length, c.if-length-eq0.false) in
    let room : 0 < c.args.self.now.capacity = omega (arith, c.if-self-eq0.false) in
    front_holds c.args.self.now c.args.tx.now c.hold.new.self c.take_first.new.tx c.in-Ok.end _ c.in-Ok.ensures.leaves c.in-Ok.ensures.value some room c.in-Ok-take_first.ensures.holds

pub returns-in-Err-take_first-clause-holds : goal.returns-in-Err-take_first-clause-holds
returns-in-Err-take_first-clause-holds g c =
    let some : 0 < length_in c.in-Ok.end = omega (arith, c.head_and_length-length.ensures.length, c.if-length-eq0.false) in
    let room : 0 < c.args.self.now.capacity = omega (arith, c.if-self-eq0.false) in
    front_holds c.args.self.now c.args.tx.now c.hold.new.self c.take_first.new.tx c.in-Ok.end _ c.in-Ok.ensures.leaves c.in-Ok.ensures.value some room c.in-Err-take_first.ensures.holds

pub returns-in-Ok-take_first-clause-end_alone : goal.returns-in-Ok-take_first-clause-end_alone
returns-in-Ok-take_first-clause-end_alone g c =
    let t = c.in-Ok-take_first.ensures in
    front_alone c.args.self.now c.args.tx.now c.hold.new.self c.take_first.new.tx _ c.in-Ok.ensures.leaves.does.touches t.taken t.unheld

pub returns-then-length-eq0-clause-rest : goal.returns-then-length-eq0-clause-rest
returns-then-length-eq0-clause-rest g c =
    own_rest c.args.self.now c.args.tx.now c.hold.new.self c.take_later.new.self c.take_later.result _
    (holding_keeps c.args.tx.now c.hold.new.self c.args.self.now.end c.in-Ok.ensures.adds).1 c.take_later.ensures.first

pub returns-in-Ok-take_first-clause-rest : goal.returns-in-Ok-take_first-clause-rest
returns-in-Ok-take_first-clause-rest g c =
    let kept = holding_keeps c.args.tx.now c.hold.new.self c.args.self.now.end c.in-Ok.ensures.adds in
    inl (ap (λ (a : Attempt _ _). waiting c.args.self.now.part a) c.in-Ok-take_first.ensures.same ∙ ap (λ (ws : List Waiting). waiting_of ws c.args.self.now.part) kept.1)

pub returns-in-Err-take_first-clause-rest : goal.returns-in-Err-take_first-clause-rest
returns-in-Err-take_first-clause-rest g c =
    let kept = holding_keeps c.args.tx.now c.hold.new.self c.args.self.now.end c.in-Ok.ensures.adds in
    inl (ap (λ (a : Attempt _ _). waiting c.args.self.now.part a) c.in-Err-take_first.ensures.same ∙ ap (λ (ws : List Waiting). waiting_of ws c.args.self.now.part) kept.1)

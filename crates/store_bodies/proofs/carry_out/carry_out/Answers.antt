use Rattle.std.proofs.Common.{[], ◌∷◌, subst, arith}
use Rattle.std.proofs.lemmas.Result.{err_from_is_err_and}
use Rattle.serial_terms.specs.declared.call.Call.TheVariants.{Dequeue}
use Rattle.serial_terms.specs.Serial.{outside, found}
use Rattle.tx_store.specs.Bodies.{Does}
use Rattle.tx_store.specs.BodyFacts.{does_then, stops_after}
use Rattle.store_bodies.specs.Attempts.{RunsFromBank}
use Rattle.store_bodies.specs.Moves.{looks, moves}
use Rattle.store_bodies.specs.declared.carry_out.Asked.{Asked}
use Rattle.store_bodies.proofs.Banks.{small}
use Rattle.store_bodies.proofs.Calling.{did}
use Rattle.store_bodies.proofs.carry_out.carry_out.Goals as goal

pub returns-in_err-sender-clause-acts : goal.returns-in_err-sender-clause-acts
returns-in_err-sender-clause-acts c =
    let p = err_from_is_err_and c.from_residual-in_err-sender.result c.from_residual-in_err-sender.ensures.1 in
    rw (p.1, p.2) (stops_after c.args.tx.now c.take_order.new.tx c.look_at_both.new.tx _ c.in_ok-order.ensures.same c.in_err-sender.ensures)

pub returns-then-has-order-clause-acts : goal.returns-then-has-order-clause-acts
returns-then-has-order-clause-acts c =
    does_then c.args.tx.now c.take_order.new.tx c.look_at_both.new.tx (_ ∷ []) (_ ∷ _ ∷ [])
    (subst (λ o. Does c.args.tx.now c.take_order.new.tx (outside (Dequeue 0) (found o) ∷ [])) c.in-Some.is c.in_ok-order.ensures) c.in_ok-sender.ensures

pub move_amount-requires-clause-there : goal.move_amount-requires-clause-there
move_amount-requires-clause-there c =
    let asked : Asked = record { order = c.in-Some.order; sender = c.in_ok-sender.sender; receiver = c.in_ok-sender.receiver } in
    let looked = does_then c.args.tx.now c.take_order.new.tx c.look_at_both.new.tx (_ ∷ []) (_ ∷ _ ∷ [])
    (subst (λ o. Does c.args.tx.now c.take_order.new.tx (outside (Dequeue 0) (found o) ∷ [])) c.in-Some.is c.in_ok-order.ensures) c.in_ok-sender.ensures in
    let low = small asked (subst RunsFromBank (did c.args.tx.now c.look_at_both.new.tx (looks asked) c.requires.fresh looked) c.bank_law.ensures) in
    (omega (arith, c.has.ensures, c.if-has-order.false), low.0, low.1)

pub returns-in_err-move_amount-clause-acts : goal.returns-in_err-move_amount-clause-acts
returns-in_err-move_amount-clause-acts c =
    let p = err_from_is_err_and c.from_residual-in_err-move_amount.result c.from_residual-in_err-move_amount.ensures.1 in
    let looked = does_then c.args.tx.now c.take_order.new.tx c.look_at_both.new.tx (_ ∷ []) (_ ∷ _ ∷ []) c.in_ok-order.ensures c.in_ok-sender.ensures in
    rw (p.1, p.2) (stops_after c.args.tx.now c.look_at_both.new.tx c.move_amount.new.tx _ looked.same c.in_err-move_amount.ensures)

pub returns-clause-acts : goal.returns-clause-acts
returns-clause-acts c =
    let asked : Asked = record { order = c.in-Some.order; sender = c.in_ok-sender.sender; receiver = c.in_ok-sender.receiver } in
    let looked = does_then c.args.tx.now c.take_order.new.tx c.look_at_both.new.tx (_ ∷ []) (_ ∷ _ ∷ [])
    (subst (λ o. Does c.args.tx.now c.take_order.new.tx (outside (Dequeue 0) (found o) ∷ [])) c.in-Some.is c.in_ok-order.ensures) c.in_ok-sender.ensures in
    does_then c.args.tx.now c.look_at_both.new.tx c.move_amount.new.tx (looks asked) (moves asked) looked c.in_ok-move_amount.ensures

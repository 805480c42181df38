use Rattle.std.proofs.Common.{ℕ, ◌+◌, ◌-◌, [], ◌∷◌, subst}
use Rattle.std.proofs.lemmas.Result.{err_from_is_err_and}
use Rattle.serial_terms.specs.declared.call.Call.TheVariants.{MapPut}
use Rattle.serial_terms.specs.declared.call.Reply.TheVariants.{Nothing}
use Rattle.serial_terms.specs.Serial.{outside}
use Rattle.tx_store.specs.Bodies.{NoMap, Does}
use Rattle.tx_store.specs.BodyFacts.{acts_then, does_then, stops_after}
use Rattle.store_bodies.specs.Moves.{sender_in, receiver_in, amount_in}
use Rattle.store_bodies.proofs.carry_out.move_amount.Goals as goal

pub returns-in_err-set-2 : goal.returns-in_err-set-2
returns-in_err-set-2 c =
    let p = err_from_is_err_and c.from_residual-in_err-set-2.result c.from_residual-in_err-set-2.ensures.1 in
    rw (p.1, p.2) (stops_after c.args.tx.now c.set.new.tx c.set-2.new.tx _ c.in_ok-set.ensures.same c.in_err-set-2.ensures)

pub returns : goal.returns
returns c =
    let order = c.args.asked.order in
    let paid = subst (λ (v : ℕ). Does c.args.tx.now c.set.new.tx (outside (MapPut 0 (sender_in order) (v - amount_in order)) Nothing ∷ [])) c.has-sender.ensures c.in_ok-set.ensures in
    let got = subst (λ (v : ℕ). Does c.set.new.tx c.set-2.new.tx (outside (MapPut 1 (receiver_in order) (v + amount_in order)) Nothing ∷ [])) c.has-receiver.ensures c.in_ok-set-2.ensures in
    acts_then NoMap c.args.tx.now c.set-2.new.tx c.add_receipt.new.tx (_ ∷ _ ∷ []) (λ x. _ ∷ []) c.add_receipt.result
    (does_then c.args.tx.now c.set.new.tx c.set-2.new.tx (_ ∷ []) (_ ∷ []) paid got) c.add_receipt.ensures

use Rattle.std.proofs.Common.{[], ◌∷◌}
use Rattle.std.proofs.lemmas.Result.{err_from_is_err_and}
use Rattle.tx_store.specs.BodyFacts.{does_then, stops_after}
use Rattle.store_bodies.proofs.carry_out.look_at_both.Goals as goal

pub returns-in_err-receiver : goal.returns-in_err-receiver
returns-in_err-receiver c =
    let p = err_from_is_err_and c.from_residual-in_err-receiver.result c.from_residual-in_err-receiver.ensures.1 in
    rw (p.1, p.2) (stops_after c.args.tx.now c.look.new.tx c.look-2.new.tx _ c.in_ok-sender.ensures.same c.in_err-receiver.ensures)

pub returns : goal.returns
returns c = does_then c.args.tx.now c.look.new.tx c.look-2.new.tx (_ ∷ []) (_ ∷ []) c.in_ok-sender.ensures c.in_ok-receiver.ensures

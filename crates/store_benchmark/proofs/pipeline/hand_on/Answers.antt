use Rattle.std.proofs.Common.{[], ◌∷◌}
use Rattle.std.proofs.lemmas.Result.{err_from_is_err_and}
use Rattle.store_benchmark.proofs.Asking.{asked_then, stopped_after}
use Rattle.store_benchmark.proofs.pipeline.hand_on.Goals as goal

pub returns-in_err-put : goal.returns-in_err-put
returns-in_err-put c =
    let p = err_from_is_err_and c.from_residual-in_err-put.result c.from_residual-in_err-put.ensures.1 in
    rw (p.1, p.2) (stopped_after c.args.tx.now c.take.new.tx c.put.new.tx _ _ c.in_ok-item.ensures c.in_err-put.ensures)

pub returns-in_err-enqueue : goal.returns-in_err-enqueue
returns-in_err-enqueue c =
    let p = err_from_is_err_and c.from_residual-in_err-enqueue.result c.from_residual-in_err-enqueue.ensures.1 in
    rw (p.1, p.2) (stopped_after c.args.tx.now c.put.new.tx c.enqueue.new.tx _ _
    (asked_then c.args.tx.now c.take.new.tx c.put.new.tx (_ ∷ []) (_ ∷ []) c.in_ok-item.ensures c.in_ok-put.ensures) c.in_err-enqueue.ensures)

pub returns : goal.returns
returns c = asked_then c.args.tx.now c.put.new.tx c.enqueue.new.tx (_ ∷ _ ∷ []) (_ ∷ [])
    (asked_then c.args.tx.now c.take.new.tx c.put.new.tx (_ ∷ []) (_ ∷ []) c.in_ok-item.ensures c.in_ok-put.ensures) c.in_ok-enqueue.ensures

use Rattle.std.proofs.Common.{[], ◌∷◌}
use Rattle.std.proofs.lemmas.Result.{err_from_is_err_and}
use Rattle.store_benchmark.proofs.Asking.{asked_then, stopped_after}
use Rattle.store_benchmark.proofs.pipeline.take_over.Goals as goal

pub returns-in_err-put_back : goal.returns-in_err-put_back
returns-in_err-put_back c =
    let p = err_from_is_err_and c.from_residual-in_err-put_back.result c.from_residual-in_err-put_back.ensures.1 in
    rw (p.1, p.2) (stopped_after c.args.tx.now c.dequeue.new.tx c.put_back.new.tx _ _ c.in_ok-item.ensures c.in_err-put_back.ensures)

pub returns : goal.returns
returns c = asked_then c.args.tx.now c.dequeue.new.tx c.put_back.new.tx (_ ∷ []) (_ ∷ _ ∷ _ ∷ []) c.in_ok-item.ensures c.in_ok-put_back.ensures

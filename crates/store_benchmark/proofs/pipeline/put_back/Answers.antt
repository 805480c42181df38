use Rattle.std.proofs.Common.{[], ◌∷◌}
use Rattle.std.proofs.lemmas.Result.{err_from_is_err_and}
use Rattle.store_benchmark.proofs.Asking.{asked_then, stopped_after}
use Rattle.store_benchmark.proofs.pipeline.put_back.Goals as goal

pub returns-in_err-append : goal.returns-in_err-append
returns-in_err-append c =
    let p = err_from_is_err_and c.from_residual-in_err-append.result c.from_residual-in_err-append.ensures.1 in
    rw (p.1, p.2) (stopped_after c.args.tx.now c.remove.new.tx c.append.new.tx _ _ c.in_ok-remove.ensures c.in_err-append.ensures)

pub returns-in_err-give : goal.returns-in_err-give
returns-in_err-give c =
    let p = err_from_is_err_and c.from_residual-in_err-give.result c.from_residual-in_err-give.ensures.1 in
    rw (p.1, p.2) (stopped_after c.args.tx.now c.append.new.tx c.give.new.tx _ _ (asked_then c.args.tx.now c.remove.new.tx c.append.new.tx (_ ∷ []) (_ ∷ []) c.in_ok-remove.ensures c.in_ok-append.ensures) c.in_err-give.ensures)

pub returns : goal.returns
returns c = asked_then c.args.tx.now c.append.new.tx c.give.new.tx (_ ∷ _ ∷ []) (_ ∷ []) (asked_then c.args.tx.now c.remove.new.tx c.append.new.tx (_ ∷ []) (_ ∷ []) c.in_ok-remove.ensures c.in_ok-append.ensures) c.in_ok-give.ensures

use Rattle.std.proofs.lemmas.Result.{err_from_is_err_and}
use Rattle.std.proofs.Common.{List, [], ◌∷◌, subst}
use Rattle.serial_terms.specs.declared.call.Call.{Call}
use Rattle.serial_terms.specs.declared.call.Call.TheVariants.{MapGet}
use Rattle.store_benchmark.specs.Asked.{Asked}
use Rattle.store_benchmark.proofs.Asking.{asked_then, stopped_after, one_more}
use Rattle.store_benchmark.proofs.touch.get_all.Goals as goal

pub returns-in_err-get : goal.returns-in_err-get
returns-in_err-get c =
    let p = err_from_is_err_and c.from_residual.result c.from_residual.ensures.1 in
    rw (p.1, p.2) (stopped_after c.args.tx.now c.loop-key.tx c.get.new.tx _ _ c.loop-key.invariant c.in_err-get.ensures)

pub loop-key-preserved : goal.loop-key-preserved
loop-key-preserved c =
    subst (λ (calls : List Call). Asked c.args.tx.now c.get.new.tx calls) (one_more (λ k. MapGet 0 k) c.args.keys.now c.loop-key.key-index _ 0 c.loop-key-test.true c.from.ensures)
    (asked_then c.args.tx.now c.loop-key.tx c.get.new.tx _ (_ ∷ []) c.loop-key.invariant c.in_ok-get.ensures)

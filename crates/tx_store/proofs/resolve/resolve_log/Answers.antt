use Rattle.tx_store.proofs.PartResolving.{log_resolves, log_refuses}
use Rattle.tx_store.proofs.resolve.resolve_log.Goals as goal

pub returns-in-Ok-clause-resolves : goal.returns-in-Ok-clause-resolves
returns-in-Ok-clause-resolves g c =
    let s = c.args.plan.now in let l = c.args.log in let part = c.log_of-part in let e = c.in-Ok.ensures in
    log_resolves s c.args.tx.now c.resolve.new.tx l c.requires.log part.result part.ensures.part (c.log_calls_law.ensures s l part.ensures.part c.requires.log part.ensures.small)
    tt c.requires.kept e.nothing e.placed e.settled e.leaves

pub returns-in-Err-clause-resolves : goal.returns-in-Err-clause-resolves
returns-in-Err-clause-resolves g c =
    let s = c.args.plan.now in let l = c.args.log in let part = c.log_of-part in let e = c.in-Err.ensures in
    log_refuses s c.args.tx.now c.resolve.new.tx l c.requires.log part.result part.ensures.part (c.log_calls_law.ensures s l part.ensures.part c.requires.log part.ensures.small)
    (Unit {0}) c.in-Err.end e.nothing e.refused e.leaves

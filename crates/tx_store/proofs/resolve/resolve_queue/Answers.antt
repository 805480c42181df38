use Rattle.tx_store.proofs.PartResolving.{queue_resolves, queue_refuses}
use Rattle.tx_store.proofs.resolve.resolve_queue.Goals as goal

pub returns-in-Ok-clause-resolves : goal.returns-in-Ok-clause-resolves
returns-in-Ok-clause-resolves g c =
    let s = c.args.plan.now in let q = c.args.queue in let part = c.queue_of-part in let e = c.in-Ok.ensures in
    queue_resolves s c.args.tx.now c.resolve.new.tx q c.requires.queue part.result part.ensures.part (c.queue_calls_law.ensures s q part.ensures.part c.requires.queue part.ensures.small)
    tt c.laid_over_law.ensures.ascending c.requires.kept e.nothing e.placed e.settled e.leaves

pub returns-in-Err-clause-resolves : goal.returns-in-Err-clause-resolves
returns-in-Err-clause-resolves g c =
    let s = c.args.plan.now in let q = c.args.queue in let part = c.queue_of-part in let e = c.in-Err.ensures in
    queue_refuses s c.args.tx.now c.resolve.new.tx q c.requires.queue part.result part.ensures.part (c.queue_calls_law.ensures s q part.ensures.part c.requires.queue part.ensures.small)
    (Unit {0}) c.in-Err.end e.nothing e.refused e.leaves

use Rattle.tx_store.specs.Resolves.{parts_of}
use Rattle.tx_stack.specs.Calls.{IsCallAlone}
use Rattle.tx_stack.specs.Stacks.{pushes, IsPutOn}
use Rattle.tx_stack.proofs.Refused.{spent_or_memory}
use Rattle.tx_stack.proofs.part.StackPart.push_one.Goals as goal

pub returns-in-Err-clause-only : goal.returns-in-Err-clause-only
returns-in-Err-clause-only c =
    let p = c.args.self.now in
    let m = c.args.store.now.table.meaning in
    spent_or_memory m (parts_of m.plan) (IsCallAlone p (pushes c.args.value) (IsPutOn p.capacity)) c.args.tries c.args.pass c.in-Err.refused.0 c.in-Err.refused.1 c.in-Err.ensures.full c.in-Err.ensures.refused.1 c.sights_law.ensures

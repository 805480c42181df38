use Rattle.tx_store.specs.BodyFacts.{same_nested}
use Rattle.tx_stack.proofs.MoveSteps.{was_made, ready_then, refused_as}
use Rattle.tx_stack.proofs.moving.move_top.Goals as goal

pub returns-clause-same : goal.returns-clause-same
returns-clause-same c = same_nested c.args.tx.now c.nested.new.tx c.nested.ensures.goes_on c.nested.ensures.grows

pub returns-clause-moved : goal.returns-clause-moved
returns-clause-moved c = was_made c.args.from.now c.args.to.now c.args.tx.now c.nested.new.tx c.nested.result c.requires.running c.nested.ensures.goes_on c.nested.ensures.grows c.nested.ensures.ok

pub returns-clause-ready : goal.returns-clause-ready
returns-clause-ready c =
    ready_then c.args.from.now c.args.to.now c.args.tx.now c.nested.new.tx c.nested.result c.requires.stacks.0 c.requires.stacks.1 c.requires.ready
    (was_made c.args.from.now c.args.to.now c.args.tx.now c.nested.new.tx c.nested.result c.requires.running c.nested.ensures.goes_on c.nested.ensures.grows c.nested.ensures.ok)

pub returns-clause-refused : goal.returns-clause-refused
returns-clause-refused c = refused_as c.args.from.now c.args.to.now c.args.tx.now c.nested.new.tx c.args.tries _ c.nested.result c.nested.ensures.err

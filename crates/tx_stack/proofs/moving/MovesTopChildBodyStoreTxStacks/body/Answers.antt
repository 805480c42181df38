use Rattle.tx_stack.proofs.MoveSteps.{went, has_added, is_stopped}
use Rattle.tx_stack.proofs.moving.MovesTopChildBodyStoreTxStacks.body.Goals as goal

pub returns-clause-stays : goal.returns-clause-stays
returns-clause-stays g c =
    let child = (went c.args.self.now.from.now c.args.self.now.to.now c.args.tx.now c.move_item.new.tx c.move_item.result c.move_item.ensures).child c.requires.marked in
    (child.0, child.1)

pub returns-clause-grows : goal.returns-clause-grows
returns-clause-grows g c = ((went c.args.self.now.from.now c.args.self.now.to.now c.args.tx.now c.move_item.new.tx c.move_item.result c.move_item.ensures).child c.requires.marked).2

pub returns-clause-ok : goal.returns-clause-ok
returns-clause-ok g c = has_added c.args.self.now.from.now c.args.self.now.to.now c.args.tx.now c.move_item.new.tx c.move_item.result c.move_item.ensures c.requires.child.child

pub returns-clause-err : goal.returns-clause-err
returns-clause-err g c = is_stopped c.args.self.now.from.now c.args.self.now.to.now c.args.tx.now c.move_item.new.tx c.move_item.result c.move_item.ensures c.requires.child.child c.requires.marked

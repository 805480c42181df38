use Rattle.run_purpose.proofs.Rows.{next_row}
use Rattle.run_purpose.proofs.layout.first_batch.Goals as goal

pub loop-task-preserved : goal.loop-task-preserved
loop-task-preserved c = next_row c.loop-task.items.items c.push.new.self.items c.loop-task.task c.from.result c.loop-task.invariant c.from.ensures c.in_ok-push.ensures.items

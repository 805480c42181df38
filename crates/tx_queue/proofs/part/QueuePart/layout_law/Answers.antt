use Rattle.tx_queue.proofs.Queues.{formed_in_layout, values_in_layout}
use Rattle.tx_queue.proofs.part.QueuePart.layout_law.Goals as goal

pub returns-clause-formed : goal.returns-clause-formed
returns-clause-formed c = formed_in_layout c.args.self.now

pub returns-clause-values : goal.returns-clause-values
returns-clause-values c = values_in_layout c.args.self.now

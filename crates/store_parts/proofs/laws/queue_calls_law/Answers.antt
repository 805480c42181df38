use Rattle.store_parts.proofs.Queues.{queue_calls}
use Rattle.store_parts.proofs.laws.queue_calls_law.Goals as goal

pub returns : goal.returns
returns c = λ s q is there few. queue_calls c.parts_are_apart_law.ensures s q there few c.args.part.now is c.layout_law.ensures.formed c.layout_law.ensures.values c.serial_law.ensures.enqueue c.serial_law.ensures.dequeue c.serial_law.ensures.len

use Rattle.tx_core.specs.Words.{length_after}
use Rattle.tx_core.specs.SequenceFacts.{after_other}
use Rattle.tx_queue.proofs.Queues.{same_queue}
use Rattle.tx_queue.proofs.part.QueuePart.keeps_apart_law.Goals as goal

pub returns : goal.returns
returns c = λ cells writes others queue. same_queue c.args.self.now cells _ (length_after writes cells) (λ k of. after_other cells writes k (others k of)) queue

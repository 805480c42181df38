use Rattle.std.proofs.Common.{length}
use Rattle.tx_core.specs.Calls.{waiting}
use Rattle.tx_core.specs.SequencePlaces.{IsPlacing}
use Rattle.tx_queue.specs.Queue.{sequence_of}
use Rattle.tx_queue.proofs.part.QueuePart.place_all.Given as goal

abbrev pub decreases-loop-value : goal.decreases-loop-value
decreases-loop-value g l = length (waiting l.self.part l.tx)

abbrev pub invariant-loop-value : goal.invariant-loop-value
invariant-loop-value g l = IsPlacing (sequence_of l.self) l.fn.end l.initial.tx l.tx l.next

use Rattle.tx_core.specs.OneCell.{reading_is, reading_keeps}
use Rattle.tx_queue.proofs.Replies.{length_known}
use Rattle.tx_queue.proofs.part.QueuePart.len.Goals as goal

pub returns-in-Ok-clause-length : goal.returns-in-Ok-clause-length
returns-in-Ok-clause-length g c =
    let r = c.in-Ok.ensures in
    let old = c.args.tx.now in
    let new = c.read.new.self in
    let kept = reading_keeps old new c.args.self.now.end c.in-Ok.end (reading_is old new c.args.self.now.end c.in-Ok.end r.own r.seen_before r.observes) in
    length_known c.args.self.now old new c.in-Ok.end c.with_waiting.result kept.0 kept.1 c.laid_over_law.ensures.shows r.value c.with_waiting.ensures

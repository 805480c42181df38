use Rattle.std.proofs.Common.{refl, arith}
use Rattle.std.proofs.lemmas.List.{length-append}
use Rattle.cell_table.specs.Cells.{after}
use Rattle.tx_log.specs.Log.{IsLog, values_in}
use Rattle.tx_core.specs.Calls.{waiting}
use Rattle.tx_log.proofs.Logs.{length-values}
use Rattle.tx_core.specs.OneCell.{reading_is, reading_keeps}
use Rattle.tx_log.proofs.OneRead.{length_shown}
use Rattle.tx_log.proofs.part.LogPart.len.Goals as goal

pub returns-in-Ok-clause-length : goal.returns-in-Ok-clause-length
returns-in-Ok-clause-length g c cells all log =
    let r = c.in-Ok.ensures in
    let kept = reading_keeps c.args.tx.now c.read.new.self c.args.self.now.end c.in-Ok.shared (reading_is c.args.tx.now c.read.new.self c.args.self.now.end c.in-Ok.shared r.own r.seen_before r.observes) in
    let there : IsLog c.args.self.now (after cells c.read.new.self.writes) = rw kept.0 log in
    let shared = length_shown c.args.self.now c.read.new.self c.in-Ok.shared cells (c.laid_over_law.ensures.shows _ _ r.value) all there in
    let long = length-values c.args.self.now (after cells c.read.new.self.writes) there in
    let answer = c.with_waiting.ensures (omega (arith, there.within, shared)) in
    (there, (rw (← kept.0, ← kept.1) (omega (arith, answer, shared, long, length-append (values_in c.args.self.now (after cells c.read.new.self.writes)) (waiting c.args.self.now.part c.read.new.self))), rw (kept.0, kept.1) refl))

use Rattle.std.proofs.Common.{◌∙◌, Option, ap, sym}
use Rattle.serial_terms.specs.declared.call.Done.{Done}
use Rattle.serial_terms.specs.Entries.{Entry}
use Rattle.history_audit.specs.Begun.{onto, records_in}
use Rattle.history_audit.proofs.Beginning.{records_next, records_short}
use Rattle.history_audit.proofs.replay.first_record.Goals as goal

pub returns-in-None-clause-read : goal.returns-in-None-clause-read
returns-in-None-clause-read c = records_short c.args.lines.now c.cut.result.0.now (rw c.in-None.is at c.cut.ensures.cut)

pub returns-clause-read : goal.returns-clause-read
returns-clause-read c = records_next c.args.lines.now c.cut.result.0.now c.in-Some.behind.now (rw c.in-Some.is at c.cut.ensures.cut)
    ∙ ap (λ (o : Option (Entry Done)). onto o (records_in c.in-Some.behind.now)) (sym c.in_ok-record.ensures)

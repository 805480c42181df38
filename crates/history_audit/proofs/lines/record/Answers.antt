use Rattle.std.proofs.Common.{◌≡◌}
use Rattle.serial_terms.specs.declared.call.Done.{Done}
use Rattle.serial_terms.specs.Entries.{Entry}
use Rattle.serial_terms.specs.Histories.{entry_of}
use Rattle.journal_terms.specs.Strict.{IsReadableRecord, read_record}
use Rattle.journal_terms.specs.Text.{record_text}
use Rattle.history_audit.proofs.Exactly.{read_exactly}
use Rattle.history_audit.proofs.lines.record.Goals as goal

pub returns : goal.returns
returns c = read_exactly entry_of (read_record c.args.line.now) (λ (e : Entry Done). IsReadableRecord e × (record_text e ≡ c.args.line.now)) (c.lines_are_read_law.ensures.records c.args.line.now) c.read_record.result c.read_record.ensures

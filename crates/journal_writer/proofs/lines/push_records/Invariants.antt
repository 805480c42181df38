use Rattle.std.proofs.Common.{◌≡◌, ◌++◌, take}
use Rattle.std.specs.List.{flat_map}
use Rattle.serial_terms.specs.Histories.{entry_of}
use Rattle.journal_terms.specs.Text.{record_text}
use Rattle.journal_writer.specs.Texts.{ended}
use Rattle.journal_writer.proofs.lines.push_records.Given as goal

abbrev pub invariant-loop-committed : goal.invariant-loop-committed
invariant-loop-committed l = l.text.items ≡ l.fn.text.items ++ flat_map (λ r. ended (record_text (entry_of r))) (take l.committed-index l.records)

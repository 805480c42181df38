use Rattle.std.proofs.Common.{◌≡◌, take}
use Rattle.cell_table.specs.Seats.{noted_all}
use Rattle.serial_terms.specs.Histories.{entries_of}
use Rattle.serial_terms.specs.Renaming.{by_key, entries_with}
use Rattle.store_history.specs.Books.{records_from}
use Rattle.store_contents.proofs.books.records_of.Given as goal

abbrev pub invariant-loop-index : goal.invariant-loop-index
invariant-loop-index l = entries_of l.records.items ≡ entries_with by_key (records_from (λ notes. notes) l.caller 0 (noted_all (take l.index l.entries)))

use Rattle.std.proofs.Common.{◌≡◌, take}
use Rattle.serial_terms.specs.Renaming.{by_key}
use Rattle.store_contents.proofs.books.dones_of.Given as goal

abbrev pub invariant-loop-note : goal.invariant-loop-note
invariant-loop-note l = l.dones.items ≡ by_key (take l.note-index l.notes)

use Rattle.std.proofs.Common.{◌≡◌, take}
use Rattle.serial_terms.specs.Renaming.{by_key}
use Rattle.store_history.specs.Books.{books_of}
use Rattle.store_history.specs.Keyed.{books_with}
use Rattle.store_history.specs.Records.{books_in}
use Rattle.store_contents.proofs.books.record_books.Given as goal

abbrev pub invariant-loop-caller : goal.invariant-loop-caller
invariant-loop-caller g l = books_in l.books.items ≡ books_with by_key (books_of (λ notes. notes) (take l.caller l.pass.books))

use Rattle.serial_terms.proofs.Books.{keeps_books}
use Rattle.serial_terms.proofs.laws.history_keeps_books_law.Goals as goal

pub returns : goal.returns
returns c = keeps_books

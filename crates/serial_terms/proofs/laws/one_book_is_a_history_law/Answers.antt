use Rattle.serial_terms.proofs.OneBook.{one_book}
use Rattle.serial_terms.proofs.laws.one_book_is_a_history_law.Goals as goal

pub returns : goal.returns
returns c = one_book

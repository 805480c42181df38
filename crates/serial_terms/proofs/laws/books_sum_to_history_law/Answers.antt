use Rattle.serial_terms.proofs.Books.{books_sum}
use Rattle.serial_terms.proofs.laws.books_sum_to_history_law.Goals as goal

pub returns : goal.returns
returns c = books_sum

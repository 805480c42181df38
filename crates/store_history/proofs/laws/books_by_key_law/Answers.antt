use Rattle.store_history.proofs.Fitting.{ascends}
use Rattle.store_history.proofs.Keyed.{are_books}
use Rattle.store_history.proofs.laws.books_by_key_law.Goals as goal

pub returns : goal.returns
returns g c = are_books g.M.StateMeaning.named c.one_book_is_a_history_law.ensures c.args._pass.now.books (ascends g.M.Meaning.lawful g.M.Meaning.explains c.args._pass.now c.legal_law.ensures) c.legal_law.ensures.ascending

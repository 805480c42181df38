-- The books of a pass as books of records.
use Rattle.std.specs.Prelude.{ℕ, ◌+◌, List, [], ◌∷◌}
use Rattle.serial_terms.specs.Entries.{Entry, Book}
use Rattle.serial_terms.specs.Renaming.{NamedDone}
use Rattle.cell_table.specs.declared.view.Noted.{Noted}
use Rattle.cell_table.specs.declared.view.NotedBook.{NotedBook}

-- `named` gives calls as a table keeps them with their keys and the names of their keys
module _ {D : Type 0} (named : List D → List NamedDone) where
  abbrev pub record_of : ℕ → ℕ → Noted D → Entry NamedDone
  record_of caller index e = record { caller = caller; index = index; place = e.place; writer = e.writer; dones = named e.content.dones }

  -- the entries of a caller as records with the indices n, n + 1 and so on
  abbrev pub records_from : ℕ → ℕ → List (Noted D) → List (Entry NamedDone)
  records_from caller n [] = []
  records_from caller n (e ∷ es) = record_of caller n e ∷ records_from caller (n + 1) es

  abbrev pub book_of : NotedBook D → Book NamedDone
  book_of b = record { caller = b.caller; records = records_from b.caller 0 b.entries }

  abbrev pub books_of : List (NotedBook D) → List (Book NamedDone)
  books_of [] = []
  books_of (b ∷ bs) = book_of b ∷ books_of bs

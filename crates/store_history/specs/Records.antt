-- Books of records at run time.
use Rattle.std.specs.Prelude.{◌≡◌, ℕ, ◌<◌, ◌≤◌, true, false, List, [], ◌∷◌, ◌++◌, ◌⊎◌, sum_by, vec_len}
use Rattle.serial_terms.specs.declared.call.Done.{Done}
use Rattle.serial_terms.specs.declared.committed.Record.{Record}
use Rattle.serial_terms.specs.Entries.{Book, OrderedBy}
use Rattle.serial_terms.specs.Histories.{entries_of}
use Rattle.store_history.specs.declared.merge.RecordBook.{RecordBook}

abbrev pub books_in : List RecordBook → List (Book Done)
books_in [] = []
books_in (b ∷ bs) = record { caller = b.caller; records = entries_of b.records.items } ∷ books_in bs

-- the records of all books
abbrev pub records_in : List RecordBook → List Record
records_in [] = []
records_in (b ∷ bs) = b.records.items ++ records_in bs

abbrev pub record_count : List RecordBook → ℕ
record_count books = sum_by (λ b. vec_len b.records) books

-- the first comes in the order of a history, or the two are in one place of it
abbrev pub ComesNoLater : Record → Record → Type 0
ComesNoLater a b = (a.place < b.place) ⊎ ((a.place ≡ b.place) × (((a.writer ≡ true) × (b.writer ≡ false))
    ⊎ ((a.writer ≡ b.writer) × ((a.caller < b.caller) ⊎ ((a.caller ≡ b.caller) × (a.index ≤ b.index))))))

abbrev pub AreInOrder : List Record → Type 0
AreInOrder = OrderedBy ComesNoLater

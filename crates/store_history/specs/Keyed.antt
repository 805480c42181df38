-- The history at the end by keys, as a store hands it out.
use Rattle.std.specs.Prelude.{ℕ, List, [], ◌∷◌, Option}
use Rattle.serial_terms.specs.declared.call.Done.{Done}
use Rattle.serial_terms.specs.Entries.{Entry, Each, Book, IsHistoryOf}
use Rattle.serial_terms.specs.Histories.{IsLegalHistory}
use Rattle.serial_terms.specs.Renaming.{NamedDone, IsOneToOne, AreNamesOfKeys, AreNamesIn, by_key, by_keys, entries_with, seen_with}
use Rattle.serial_terms.specs.Serial.{State}
use Rattle.serial_terms.specs.Sights.{Seen, IsConsistent}
use Rattle.cell_table.specs.Pass.{PassState}
use Rattle.store_history.specs.Books.{books_of}
use Rattle.store_history.specs.Histories.{VouchesFor}

-- the same books with other calls
module _ {A B : Type 0} (f : List A → List B) where
  abbrev pub book_with : Book A → Book B
  book_with b = record { caller = b.caller; records = entries_with f b.records }

  abbrev pub books_with : List (Book A) → List (Book B)
  books_with [] = []
  books_with (b ∷ bs) = book_with b ∷ books_with bs

module _ {M D : Type 0} (lawful : M → List ℕ → Type 0) (named : List D → List NamedDone) (state_of : M → List ℕ → State) (allows : M → List Done → Type 0) where
  -- A legal history of allowed records, with keys in the place of their names, from the opening to the state of the values that the
  -- cells are left with. What the view of the pass vouches for is consistent with it
  pub record IsKeyedHistory (m : M) (p : PassState M D) (values : List ℕ) (name : ℕ → ℕ → Option ℕ) (history : List (Entry Done)) : Type 0 where
    pub legal : IsLegalHistory (by_keys name (state_of m p.view.opening)) history (by_keys name (state_of m values))
    pub allowed : Each (λ e. allows m e.dones) history
    pub sights : (queues : ℕ) (seen : Seen NamedDone) → VouchesFor lawful named state_of m p.view queues seen → AreNamesOfKeys name seen.dones
        → IsConsistent queues (by_keys name (state_of m p.view.opening)) history (seen_with by_key seen)

  -- Where no two keys of a map have one name, and these are the names of the keys in the books, the records of the books by key in the
  -- order of a history are such a one
  abbrev pub KeyedHistory : M → PassState M D → List ℕ → Type 0
  KeyedHistory m p values = (name : ℕ → ℕ → Option ℕ) → IsOneToOne name → Each (λ b. AreNamesIn name b.records) (books_of named p.books)
      → (history : List (Entry Done)) → IsHistoryOf (books_with by_key (books_of named p.books)) history → IsKeyedHistory m p values name history

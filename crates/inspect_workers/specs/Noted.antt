-- The records that a call adds to the books of a pass, all in the acting caller's book.
use Rattle.std.specs.Prelude.{◌≡◌, ℕ, ◌≤◌, List, [], ◌∷◌, length}
use Rattle.cell_table.specs.declared.view.Noted.{Noted}
use Rattle.cell_table.specs.declared.view.NotedBook.{NotedBook}
use Rattle.cell_table.specs.Pass.{PassState, note}
use Rattle.run_stages.specs.Allowed.{IsAllowed}
use Rattle.run_stages.specs.Ends.{is_fill, tasks_taken, items_taken}
use Rattle.run_stages.specs.Work.{Work}
use Rattle.serial_terms.specs.declared.call.Done.{Done}
use Rattle.serial_terms.specs.Entries.{Each, total_of_books}
use Rattle.serial_terms.specs.Renaming.{NamedDone, by_key}
use Rattle.store_history.specs.Books.{books_of}

abbrev pub Books : Type 0
Books = List (NotedBook NamedDone)

-- the calls of a record, by their keys
abbrev pub calls_of : Noted NamedDone → List Done
calls_of e = by_key e.content.dones

-- the acting caller's book with this record at its end
abbrev pub with_record : Noted NamedDone → Books → Books
with_record e books = note e.place e.writer e.content books

-- with these, in their order
abbrev pub with_records : List (Noted NamedDone) → Books → Books
with_records [] books = books
with_records (e ∷ es) books = with_records es (with_record e books)

-- one record was added, of calls with D
pub record Adds (D : List Done → Type 0) (old new : Books) : Type 0 where
  pub entry : Noted NamedDone
  pub books : new ≡ with_record entry old
  pub calls : D (calls_of entry)

-- and so were several, n at most
pub record AddsUpTo (n : ℕ) (D : List Done → Type 0) (old new : Books) : Type 0 where
  pub entries : List (Noted NamedDone)
  pub few : length entries ≤ n
  pub books : new ≡ with_records entries old
  pub calls : Each (λ e. D (calls_of e)) entries

-- one was added, of calls with D, at the place that the pass has seen since
pub record AddsOne {M : Type 0} (D : List Done → Type 0) (old new : PassState M NamedDone) : Type 0 where
  pub entry : Noted NamedDone
  pub books : new.books ≡ with_record entry old.books
  pub place : entry.place ≡ new.seen
  pub calls : D (calls_of entry)

-- no record of the books has a later place
abbrev pub HasNoneAfter : ℕ → Books → Type 0
HasNoneAfter place books = Each (λ b. Each (λ e. e.place ≤ place) b.entries) books

-- how many records of the books fill the pool
abbrev pub fills_in : Books → ℕ
fills_in books = total_of_books (λ e. is_fill (by_key e.dones)) (books_of (λ (dones : List NamedDone). dones) books)

module _ (w : Work) where
  -- a record that is allowed and is no fill
  pub record IsOfWorker (calls : List Done) : Type 0 where
    pub allowed : IsAllowed w calls
    pub no_fill : is_fill calls ≡ 0

  -- one that matched a datagram, one that took a task, and one that gave the next tasks
  pub record IsMatched (calls : List Done) : Type 0 where
    pub allowed : IsAllowed w calls
    pub one : items_taken calls ≡ 1

  pub record IsTaken (calls : List Done) : Type 0 where
    pub allowed : IsAllowed w calls
    pub one : tasks_taken calls ≡ 1

  pub record IsFill (calls : List Done) : Type 0 where
    pub allowed : IsAllowed w calls
    pub one : is_fill calls ≡ 1

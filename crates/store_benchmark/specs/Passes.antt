-- Passes of a store, and how many records their callers have.
use Rattle.std.specs.Prelude.{◌≡◌, ℕ, ◌+◌, ◌^◌, ◌<◌, ◌≤◌, List, [], ◌∷◌, length, Result, Ok, Err}
use Rattle.cell_table.specs.declared.view.NotedBook.{NotedBook}
use Rattle.cell_table.specs.Steps.{IsIdle}
use Rattle.tx_store.specs.Stores.{StoreView, PassView, IsPassOfStore}

-- the number of records of the acting caller
abbrev pub records_in : {D : Type 0} → List (NotedBook D) → ℕ
records_in [] = 0
records_in (b ∷ bs) = length b.entries

module _ {M : Type 0} (store : StoreView M) where
  -- attempts may begin with it
  pub record IsAtWork (p : PassView M) : Type 0 where
    pub of : IsPassOfStore store p
    pub idle : IsIdle p.pass.view

  -- and it has draws enough for all attempts of a transaction
  pub record MayTransact (p : PassView M) : Type 0 where
    pub work : IsAtWork p
    pub some : 0 < length p.pass.books
    pub draws : 2 ^ 20 ≤ p.pass.view.draws

  -- further attempts may begin, and its acting caller has n records more
  pub record HasAdded (n : ℕ) (old new : PassView M) : Type 0 where
    pub work : IsAtWork new
    pub callers : length new.pass.books ≡ length old.pass.books
    pub records : records_in new.pass.books ≡ records_in old.pass.books + n

  -- a transaction that was committed added a record, and one that wasn't none
  abbrev pub Transacts : {A E : Type 0} → PassView M → Result (PassView M × A) (PassView M × E) → Type 0
  Transacts old (Ok r) = HasAdded 1 old r.0
  Transacts old (Err r) = HasAdded 0 old r.0

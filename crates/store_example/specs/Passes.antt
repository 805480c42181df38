-- Passes of the store of a bank.
use Rattle.std.specs.Prelude.{◌≡◌, length}
use Rattle.cell_table.specs.Steps.{IsIdle}
use Rattle.store_bodies.specs.Attempts.{IsBankStore}
use Rattle.store_bodies.specs.declared.bank.Bank.{Bank}
use Rattle.store_meaning.specs.declared.meaning.StoreMeaning.{StoreMeaning}
use Rattle.tx_store.specs.Stores.{StoreView, PassView, IsPassOfStore}

module _ {K : Type 0} (store : StoreView (StoreMeaning Bank K)) where
  -- attempts may begin with it
  pub record IsAtWork (p : PassView (StoreMeaning Bank K)) : Type 0 where
    pub bank : IsBankStore store
    pub of : IsPassOfStore store p
    pub idle : IsIdle p.pass.view

  -- it has the callers and the room that it had, and further attempts may begin
  pub record Worked (old new : PassView (StoreMeaning Bank K)) : Type 0 where
    pub work : IsAtWork new
    pub callers : length new.pass.books ≡ length old.pass.books
    pub room : new.pass.room ≡ old.pass.room

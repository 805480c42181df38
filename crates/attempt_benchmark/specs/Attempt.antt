-- What stays of the attempt while it reads and writes.
use Rattle.std.specs.Prelude.{◌≡◌}
use Rattle.tx_core.specs.Tx.{Attempt}

-- its table, its callers, its draws and its additions are as before
pub record GoesOn {M D : Type 0} (old new : Attempt M D) : Type 0 where
  pub table : new.table ≡ old.table
  pub books : new.pass.books ≡ old.pass.books
  pub total : new.pass.view.total ≡ old.pass.view.total
  pub draws : new.pass.view.draws ≡ old.pass.view.draws
  pub additions : new.additions ≡ old.additions

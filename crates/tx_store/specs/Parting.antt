-- How a pass of a store is split, and joined with another.
use Rattle.std.specs.Prelude.{◌≡◌, ℕ, ◌+◌, ◌-◌, length}
use Rattle.cell_table.specs.Pass.{split_kept, split_new, joined}
use Rattle.cell_table.specs.Steps.{IsIdle}
use Rattle.tx_store.specs.Known.{Extends}
use Rattle.tx_store.specs.Stores.{PassView}

module _ {M : Type 0} where
  -- what a pass keeps when its n greatest callers leave, with their share of the draws
  pub record IsKeptPart (old new : PassView M) (n : ℕ) : Type 0 where
    pub pass : new.pass ≡ split_kept old.pass n
    pub callers : length new.pass.books ≡ length old.pass.books - n
    pub room : new.pass.room ≡ old.pass.room
    pub idle : IsIdle new.pass.view
    pub claims : new.keys.claims ≡ old.keys.claims
    pub extends : Extends old new

  -- the pass that gets them
  pub record IsNewPart (old new : PassView M) (n : ℕ) : Type 0 where
    pub pass : new.pass ≡ split_new old.pass n new.pass.reserved
    pub callers : length new.pass.books ≡ n
    pub room : new.pass.room ≡ n
    pub idle : IsIdle new.pass.view
    pub claims : new.keys.claims ≡ old.keys.claims
    pub extends : Extends old new

  -- both passes in one, after a load of the clock
  pub record IsJoined (first second new : PassView M) : Type 0 where
    pub pass : (place : ℕ) × (new.pass ≡ joined first.pass second.pass place new.pass.reserved)
    pub callers : length new.pass.books ≡ length first.pass.books + length second.pass.books
    pub room : new.pass.room ≡ first.pass.room
    pub idle : IsIdle new.pass.view
    pub extends : Extends first new
    pub other : Extends second new

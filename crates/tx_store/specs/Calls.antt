-- What a call on a structure leaves of an attempt on a store.
use Rattle.std.specs.Prelude.{◌≡◌, ℕ, Bool, true, false, List, [], ◌∷◌, ◌++◌, Option, Result, Ok, Err}
use Rattle.attempt_lists.specs.Parts.{marked_of}
use Rattle.serial_terms.specs.Renaming.{NamedDone}
use Rattle.store_layout.specs.Shapes.{Shape, Object, IsCellOf}
use Rattle.tx_core.specs.Calls.{HoldsAt, waiting}
use Rattle.tx_core.specs.declared.stop.Stop.{Stop}
use Rattle.tx_core.specs.declared.stop.TxState.{TxState}
use Rattle.tx_core.specs.declared.stop.TxState.TheVariants.{Running, Child, ChildStopped, Stopped}
use Rattle.tx_core.specs.Tx.{Attempt}
use Rattle.tx_store.specs.Attempts.{AreWaiting, Tells}
use Rattle.tx_store.specs.Stores.{TxView}

-- a child is open
abbrev pub in_child : TxState → Bool
in_child Running = false
in_child Child = true
in_child ChildStopped = true
in_child Stopped = false

-- the call, where it was answered; a refused call leaves none
abbrev pub done_in : {A E : Type 0} → (A → NamedDone) → Result A E → List NamedDone
done_in done (Ok answer) = done answer ∷ []
done_in done (Err stop) = []

-- what an open child goes back to is the same
pub record KeepsMark {M D : Type 0} (old new : Attempt M D) : Type 0 where
  pub mark : new.mark ≡ old.mark
  pub marked : (p : ℕ) → marked_of new.additions p ≡ marked_of old.additions p

-- the attempt is one on the same table, before its commit as it was, with the mark that it had, and its notes tell of the store if they did
pub record Keeps {M : Type 0} (passes : ℕ → ℕ → Type 0) (s : Shape) (old new : Attempt M NamedDone) : Type 0 where
  pub table : new.table ≡ old.table
  pub committing : new.committing ≡ old.committing
  pub child : KeepsMark old new
  pub tells : Tells passes s old → Tells passes s new

-- What a call on a structure leaves: it noted these calls, touched the structure's cells alone, in at most n steps, and ended with this stop if there is one
pub record Makes {M : Type 0} (passes : ℕ → ℕ → Type 0) (s : Shape) (o : Object) (n : ℕ) (old new : Attempt M NamedDone) (dones : List NamedDone) (stop : Option Stop) : Type 0 where
  pub notes : new.notes ≡ old.notes ++ dones
  pub holds : HoldsAt (IsCellOf s o) n old new stop
  pub keeps : Keeps passes s old new

-- it is an attempt on the same store, with the same pass of the directory, and with the mark that it had
pub record SameStore {M : Type 0} (old new : TxView M) : Type 0 where
  pub store : new.store ≡ old.store
  pub keys : new.keys ≡ old.keys
  pub committing : new.attempt.committing ≡ old.attempt.committing
  pub child : KeepsMark old.attempt new.attempt

-- The same of an attempt on a store, which stays on the same store with the same pass of the directory
pub record IsCalled {M : Type 0} (s : Shape) (o : Object) (n : ℕ) (old new : TxView M) (dones : List NamedDone) (stop : Option Stop) : Type 0 where
  pub notes : new.attempt.notes ≡ old.attempt.notes ++ dones
  pub holds : HoldsAt (IsCellOf s o) n old.attempt new.attempt stop
  pub same : SameStore old new

-- the attempt goes on with the notes and the mark that it had, on the same table, before its commit as it was, and what waits is in range if it was
pub record Goes {M D : Type 0} (s : Shape) (old new : Attempt M D) : Type 0 where
  pub table : new.table ≡ old.table
  pub committing : new.committing ≡ old.committing
  pub notes : new.notes ≡ old.notes
  pub child : KeepsMark old new
  pub waits : AreWaiting s (λ p. waiting p old) → AreWaiting s (λ p. waiting p new)

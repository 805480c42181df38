-- What a call on a map leaves of an attempt on a store.
use Rattle.std.specs.Prelude.{◌≡◌, ℕ, ◌++◌, Result, Ok, Err}
use Rattle.key_directory.specs.Words.{capacity_of}
use Rattle.serial_terms.specs.declared.call.Call.{Call}
use Rattle.serial_terms.specs.declared.call.Reply.{Reply}
use Rattle.store_layout.specs.Shapes.{Shape}
use Rattle.store_parts.specs.Parts.{map_part, noted}
use Rattle.tx_core.specs.Calls.{LooksAt}
use Rattle.tx_core.specs.declared.stop.Stop.TheVariants.{Memory}
use Rattle.tx_map.specs.Calls.{ClaimsKey, IfFull, cell_of, position_of, stop_in}
use Rattle.tx_map.specs.declared.part.MapStop.{MapStop}
use Rattle.tx_map.specs.declared.part.MapStop.TheVariants.{Stop, KeysFull}
use Rattle.tx_store.specs.Calls.{KeepsMark, in_child, done_in}
use Rattle.tx_store.specs.Stores.{TxView}

-- a call and the reply that it was given
pub record Told : Type 0 where
  pub call : Call
  pub reply : Reply

-- it is an attempt on the same store, before its commit as it was, with the mark that it had
pub record SameAttempt {M : Type 0} (old new : TxView M) : Type 0 where
  pub store : new.store ≡ old.store
  pub committing : new.attempt.committing ≡ old.attempt.committing
  pub child : KeepsMark old.attempt new.attempt

-- What a call on the map m with a key leaves
pub record IsCalledWithKey {M A : Type 0} (passes : ℕ → ℕ → Type 0) (s : Shape) (m key n : ℕ) (old new : TxView M) (told : A → Told) (result : Result A MapStop) : Type 0 where
  -- where it was answered it is noted, with the position that its key has by now
  pub notes : new.attempt.notes ≡ old.attempt.notes
      ++ done_in (λ answer. noted (told answer).call (told answer).reply (in_child old.attempt.state) (position_of (map_part s m) new.keys key)) result
  -- it looked at the key's cell alone, in at most n steps, and held no cell
  pub looks : LooksAt (λ c. c ≡ cell_of (map_part s m) new.keys key) n old.attempt new.attempt (stop_in result)
  -- the key has a position from now on, and each other key the one that it had
  pub keys : ClaimsKey (map_part s m) passes key old.keys new.keys result
  -- KeysFull names the number of the map's keys, and leaves the attempt as it was
  pub full : IfFull result (λ capacity. (capacity ≡ capacity_of new.keys.directory.capacities m) × (new.attempt ≡ old.attempt))
  pub same : SameAttempt old new

-- where it was stopped, it was by want of memory
abbrev pub IfStopMemory : {A : Type 0} → Result A MapStop → Type 0
IfStopMemory (Ok answer) = Unit {0}
IfStopMemory (Err (Stop stop)) = stop ≡ Memory
IfStopMemory (Err (KeysFull capacity)) = Unit {0}

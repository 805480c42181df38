-- What stays of an attempt from call to call, and what a refusal becomes.
use Rattle.std.specs.Prelude.{◌≡◌, ◌≢◌, ℕ, []}
use Rattle.key_directory.specs.Directory.{PassView}
use Rattle.tx_core.specs.Tx.{Attempt}
use Rattle.tx_core.specs.Calls.{MayCall, waiting}
use Rattle.tx_core.specs.declared.stop.Stop.{Stop as AttemptStop}
use Rattle.tx_core.specs.declared.stop.Stop.TheVariants as stops
use Rattle.tx_core.specs.declared.resolve_end.ResolveEnd.{ResolveEnd}
use Rattle.tx_core.specs.declared.resolve_end.ResolveEnd.TheVariants as log_ends
use Rattle.tx_map.specs.declared.part.MapStop.{MapStop}
use Rattle.tx_map.specs.declared.part.MapStop.TheVariants as map_stops
use Rattle.transfer_example.specs.declared.transfer.Refusal.{Refusal}
use Rattle.transfer_example.specs.declared.transfer.Refusal.TheVariants.{Again, Failed}

module _ {M D : Type 0} where
  -- its table, and the books and the room of its pass
  pub record Stays (old new : Attempt M D) : Type 0 where
    pub table : new.table ≡ old.table
    pub books : new.pass.books ≡ old.pass.books
    pub room : new.pass.room ≡ old.pass.room

  -- calls may follow as before, and no draw was used
  pub record GoesOn (old new : Attempt M D) : Type 0 where
    pub may : MayCall new
    pub state : new.state ≡ old.state
    pub draws : new.pass.view.draws ≡ old.pass.view.draws

  -- nothing waits but in the log of receipts
  abbrev pub OnlyReceiptsWait : Attempt M D → Type 0
  OnlyReceiptsWait a = (part : ℕ) → part ≢ 0 → waiting part a ≡ []

-- the pass is of the same directory, and has the callers and the room that it had
pub record KeepsKeys (old new : PassView) : Type 0 where
  pub directory : new.directory ≡ old.directory
  pub callers : new.callers ≡ old.callers
  pub room : new.room ≡ old.room

-- another caller was in the way, or there was no memory
abbrev pub refusal_of : AttemptStop → Refusal
refusal_of (stops.Held cell owner) = Again
refusal_of (stops.Newer cell found) = Again
refusal_of stops.Memory = Failed

abbrev pub refusal_of_map : MapStop → Refusal
refusal_of_map (map_stops.Stop stop) = refusal_of stop
refusal_of_map (map_stops.KeysFull capacity) = Failed

abbrev pub refusal_of_log : ResolveEnd → Refusal
refusal_of_log (log_ends.Stop stop) = refusal_of stop
refusal_of_log (log_ends.Full part n more) = Failed

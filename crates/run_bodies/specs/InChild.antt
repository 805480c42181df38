-- What calls leave of the open child of an attempt, one after another.
use Rattle.std.specs.Prelude.{◌≡◌, List, ◌++◌, Result, Ok, Err}
use Rattle.cell_table.specs.Pass.{IsSole}
use Rattle.serial_terms.specs.declared.call.Done.{Done}
use Rattle.serial_terms.specs.Renaming.{NamedDone, by_key}
use Rattle.tx_core.specs.declared.stop.Stop.{Stop}
use Rattle.tx_core.specs.declared.stop.Stop.TheVariants.{Memory}
use Rattle.tx_core.specs.declared.stop.TxState.TheVariants.{Child}
use Rattle.tx_map.specs.declared.part.MapStop.{MapStop}
use Rattle.tx_map.specs.declared.part.MapStop.TheVariants as maps
use Rattle.tx_nest.specs.Attempts.{StaysInChild, IsBodyStop}
use Rattle.tx_store.specs.Children.{view_of, HasMark, GrowsOn}
use Rattle.tx_store.specs.Stores.{TxView}

module _ {M : Type 0} (old new : TxView M) where
  -- the child goes on with its mark
  pub record GoesOnInChild : Type 0 where
    pub stays : StaysInChild (view_of old) (view_of new)
    pub mark : HasMark new
    pub grows : GrowsOn old new

  -- these calls were answered in the child, and further ones may follow
  pub record DoesInChild (calls : List Done) : Type 0 where
    pub goes : GoesOnInChild
    pub state : new.attempt.state ≡ Child
    pub added : List NamedDone
    pub notes : new.attempt.notes ≡ old.attempt.notes ++ added
    pub keyed : by_key added ≡ calls

  -- a call in the child was stopped
  pub record StopsInChild (stop : Stop) : Type 0 where
    pub goes : GoesOnInChild
    pub cause : IsBodyStop (view_of old) (view_of new) stop
    pub sole : IsSole old.attempt.pass → stop ≡ Memory

  -- by how they end
  abbrev pub ActsInChild : {A : Type 0} → (A → List Done) → Result A Stop → Type 0
  ActsInChild calls (Ok answer) = DoesInChild (calls answer)
  ActsInChild calls (Err stop) = StopsInChild stop

  -- the same of calls that are told by what they are
  abbrev pub ActsInChildBy : {A : Type 0} → (A → List Done → Type 0) → Result A Stop → Type 0
  ActsInChildBy P (Ok answer) = (calls : List Done) × P answer calls × DoesInChild calls
  ActsInChildBy P (Err stop) = StopsInChild stop

-- ---- the stop of a call on a map that isn't full

abbrev pub IsStop : MapStop → Type 0
IsStop (maps.Stop stop) = Unit {0}
IsStop (maps.KeysFull capacity) = ⊥

abbrev pub stop_of : MapStop → Stop
stop_of (maps.Stop stop) = stop
stop_of (maps.KeysFull capacity) = Memory

abbrev pub unless_full : {A : Type 0} → Result A MapStop → Result A Stop
unless_full (Ok answer) = Ok answer
unless_full (Err stop) = Err (stop_of stop)

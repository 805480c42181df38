-- What calls leave of the attempt of a body, one after another.
use Rattle.std.specs.Prelude.{◌≡◌, ℕ, List, ◌++◌, Result, Ok, Err}
use Rattle.serial_terms.specs.declared.call.Done.{Done}
use Rattle.serial_terms.specs.Renaming.{by_key}
use Rattle.tx_core.specs.declared.stop.Stop.{Stop}
use Rattle.tx_core.specs.declared.stop.Stop.TheVariants.{Memory}
use Rattle.tx_map.specs.declared.part.MapStop.{MapStop}
use Rattle.tx_map.specs.declared.part.MapStop.TheVariants as maps
use Rattle.tx_nest.specs.declared.tries.NestEnd.{NestEnd}
use Rattle.tx_nest.specs.declared.tries.NestEnd.TheVariants as nests
use Rattle.tx_store.specs.declared.run.BodyStop.{BodyStop}
use Rattle.tx_store.specs.declared.run.BodyStop.TheVariants as stops
use Rattle.tx_store.specs.Runs.{IsSameAttempt, IsBodyStop, IfStopKeysFull}
use Rattle.tx_store.specs.Stores.{TxView}

-- what a call answered, as a body hands it on
abbrev pub in_body : {A : Type 0} → Result A Stop → Result A BodyStop
in_body (Ok answer) = Ok answer
in_body (Err stop) = Err (stops.Stop stop)

-- the same of a call that answers nothing but want of memory
abbrev pub memory_in_body : {A E : Type 0} → Result A E → Result A BodyStop
memory_in_body (Ok answer) = Ok answer
memory_in_body (Err memory) = Err (stops.Stop Memory)

-- and of a call of this map
abbrev pub of_map : ℕ → MapStop → BodyStop
of_map map (maps.Stop stop) = stops.Stop stop
of_map map (maps.KeysFull capacity) = stops.KeysFull map capacity

abbrev pub map_in_body : {A : Type 0} → ℕ → Result A MapStop → Result A BodyStop
map_in_body map (Ok answer) = Ok answer
map_in_body map (Err stop) = Err (of_map map stop)

-- and of the children of one call
abbrev pub of_nest : NestEnd → BodyStop
of_nest (nests.Parent stop) = stops.Stop stop
of_nest (nests.Spent tries last) = stops.Stop last
of_nest nests.Memory = stops.Stop Memory

abbrev pub nest_in_body : {A : Type 0} → Result A NestEnd → Result A BodyStop
nest_in_body (Ok answer) = Ok answer
nest_in_body (Err end) = Err (of_nest end)

-- ---- the maps for which a body may stop

-- it stops for none
abbrev pub NoMap : ℕ → ℕ → Type 0
NoMap map capacity = ⊥

-- it may stop for any
abbrev pub AnyMap : ℕ → ℕ → Type 0
AnyMap map capacity = Unit {0}

-- ---- what calls leave

module _ {M : Type 0} (old new : TxView M) where
  -- these calls were answered, and further ones may follow
  pub record Does (calls : List Done) : Type 0 where
    pub same : IsSameAttempt old new
    pub state : new.attempt.state ≡ old.attempt.state
    pub noted : by_key new.attempt.notes ≡ by_key old.attempt.notes ++ calls

module _ {M : Type 0} (keys_full : ℕ → ℕ → Type 0) (old new : TxView M) where
  -- a call was stopped: for want of room for a key only where `keys_full` says so of the map and its capacity
  pub record StopsWith (stop : BodyStop) : Type 0 where
    pub same : IsSameAttempt old new
    pub cause : IsBodyStop old new stop
    pub full : IfStopKeysFull keys_full stop

  -- by how they end
  abbrev pub Acts : {A : Type 0} → (A → List Done) → Result A BodyStop → Type 0
  Acts calls (Ok answer) = Does old new (calls answer)
  Acts calls (Err stop) = StopsWith stop

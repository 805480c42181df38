-- What a body asked for, one call after another, whatever it was answered.
use Rattle.std.specs.Prelude.{◌≡◌, ℕ, List, [], ◌∷◌, map, Option, Some, None, Result, Ok, Err}
use Rattle.serial_terms.specs.declared.call.Call.{Call}
use Rattle.serial_terms.specs.declared.call.Call.TheVariants.{MapGet, MapPut, MapRemove, Enqueue, Dequeue, Take, Give, Append, CellGet, CellPut}
use Rattle.serial_terms.specs.declared.call.Done.{Done}
use Rattle.tx_store.specs.Bodies.{Does, StopsWith, AnyMap}
use Rattle.tx_store.specs.declared.run.BodyStop.{BodyStop}
use Rattle.tx_store.specs.Stores.{TxView}

-- the calls, without their replies
abbrev pub asked : List Done → List Call
asked dones = map (λ d. d.call) dones

module _ {M : Type 0} (old new : TxView M) where
  -- these calls were answered, and further ones may follow
  pub record Asked (calls : List Call) : Type 0 where
    pub dones : List Done
    pub does : Does old new dones
    pub are : asked dones ≡ calls

  -- by how they end
  abbrev pub Asks : {A : Type 0} → (A → List Call) → Result A BodyStop → Type 0
  Asks calls (Ok answer) = Asked (calls answer)
  Asks calls (Err stop) = StopsWith AnyMap old new stop

-- ---- what the transactions of the workloads call

-- gets of these keys
abbrev pub gets : List ℕ → List Call
gets keys = map (λ k. MapGet 0 k) keys

-- puts of the value for these keys
abbrev pub puts : ℕ → List ℕ → List Call
puts value keys = map (λ k. MapPut 0 k value) keys

-- a slot is taken, and handed on with a value for it
abbrev pub starts : ℕ → Option ℕ → List Call
starts value None = Take 0 ∷ []
starts value (Some slot) = Take 0 ∷ MapPut 0 slot value ∷ Enqueue 0 slot ∷ []

-- a slot is taken over, noted, and put back
abbrev pub finishes : Option ℕ → List Call
finishes None = Dequeue 0 ∷ []
finishes (Some slot) = Dequeue 0 ∷ MapRemove 0 slot ∷ Append 0 slot ∷ Give 0 slot ∷ []

-- the calls of cells that a push on an empty stack makes, and those of the pop after it
abbrev pub push_and_pop : ℕ → List Call
push_and_pop value = CellGet 0 ∷ CellPut 1 value ∷ CellPut 0 1 ∷ CellGet 0 ∷ CellGet 1 ∷ CellPut 0 0 ∷ []

-- What a call on a stack leaves of an attempt.
use Rattle.std.specs.Prelude.{◌≡◌, ℕ, ◌+◌, ◌^◌, ◌<◌, false, List, ◌++◌, Result, Ok, Err, IfOk}
use Rattle.serial_terms.specs.declared.call.Done.{Done}
use Rattle.serial_terms.specs.Entries.{IsIn}
use Rattle.serial_terms.specs.Renaming.{NamedDone, by_key}
use Rattle.serial_terms.specs.Serial.{State}
use Rattle.store_meaning.specs.declared.meaning.StoreMeaning.{StoreMeaning}
use Rattle.tx_core.specs.Calls.{MayCall, stopped_from}
use Rattle.tx_core.specs.declared.stop.Stop.{Stop}
use Rattle.tx_core.specs.declared.stop.TxState.TheVariants.{Child}
use Rattle.tx_nest.specs.Attempts.{StaysInChild, IsBodyStop}
use Rattle.tx_store.specs.Calls.{in_child}
use Rattle.tx_store.specs.Children.{view_of, HasMark, GrowsOn}
use Rattle.tx_store.specs.declared.run.RunEnd.{RunEnd}
use Rattle.tx_store.specs.declared.run.RunEnd.TheVariants as run_ends
use Rattle.tx_store.specs.Runs.{IsSameAttempt, IsStopBetween}
use Rattle.tx_store.specs.Stores.{StoreView, TxView}
use Rattle.tx_stack.specs.declared.part.StackPart.{StackPart}
use Rattle.tx_stack.specs.declared.purpose.Stacks.{Stacks}
use Rattle.tx_stack.specs.Stacks.{Act, cell_calls, IsLawful, IsAllowed}

-- what the purpose finds lawful, and what it allows
abbrev pub lawful_stacks : Stacks → State → Type 0
lawful_stacks purpose s = IsLawful purpose.parts.items s

abbrev pub allowed_stacks : Stacks → List Done → Type 0
allowed_stacks purpose dones = IsAllowed purpose.parts.items dones

-- the part is one of the store's purpose, and the store has its cells, whose numbers have 32 bits
pub record IsStackOf {K : Type 0} (store : StoreView (StoreMeaning Stacks K)) (p : StackPart) : Type 0 where
  pub part : IsIn p store.table.meaning.purpose.parts.items
  pub cells : p.base + p.capacity < store.table.meaning.plan.cells
  pub small : p.base + p.capacity < 2 ^ 32

-- the calls that the attempt has made so far are allowed
abbrev pub IsAllowedSoFar : {K : Type 0} → TxView (StoreMeaning Stacks K) → Type 0
IsAllowedSoFar t = allowed_stacks t.store.table.meaning.purpose (by_key t.attempt.notes)

-- a call on a stack may follow: the attempt runs, or its open child does, and the calls so far are allowed
pub record MayCallStack {K : Type 0} (t : TxView (StoreMeaning Stacks K)) : Type 0 where
  pub callable : MayCall t.attempt
  pub allowed : IsAllowedSoFar t

module _ {M : Type 0} (old new : TxView M) where
  -- it is the same attempt, and an open child goes on with the mark that it had
  pub record Went : Type 0 where
    pub same : IsSameAttempt old new
    pub child : HasMark old → StaysInChild (view_of old) (view_of new) × HasMark new × GrowsOn old new

  -- these calls were answered, and further ones may follow
  pub record Did (calls : List Done) : Type 0 where
    pub went : Went
    pub state : new.attempt.state ≡ old.attempt.state
    pub added : List NamedDone
    pub notes : new.attempt.notes ≡ old.attempt.notes ++ added
    pub are : by_key added ≡ calls

  -- a call was stopped, with its cause since then, and so is the attempt, or its open child
  pub record WasStopped (stop : Stop) : Type 0 where
    pub went : Went
    pub state : new.attempt.state ≡ stopped_from old.attempt.state
    pub cause : IsStopBetween old.attempt new.attempt stop
    pub child : old.attempt.state ≡ Child → HasMark old → IsBodyStop (view_of old) (view_of new) stop

  -- by how they end
  abbrev pub Ends : {A : Type 0} → (A → List Done) → Result A Stop → Type 0
  Ends calls (Ok answer) = Did (calls answer)
  Ends calls (Err stop) = WasStopped stop

  -- A call on the stack read its length, and did with it what the answer says. Length and answer belong together
  pub record IsCalledOn {A : Type 0} (p : StackPart) (act : A → Act) (Tells : ℕ → A → Type 0) (result : Result A Stop) : Type 0 where
    pub had : ℕ
    pub ends : Ends (λ answer. cell_calls (record { part = p; had = had; child = in_child old.attempt.state; act = act answer })) result
    pub tells : IfOk result (Tells had)

-- the calls are those of one call on the stack, made outside of a child. Length and answer belong together
pub record IsCallAlone {A : Type 0} (p : StackPart) (act : A → Act) (Tells : ℕ → A → Type 0) (calls : List Done) (answer : A) : Type 0 where
  pub had : ℕ
  pub tells : Tells had answer
  pub are : calls ≡ cell_calls (record { part = p; had = had; child = false; act = act answer })

-- no map, no queue and no log was full: each try was in vain, or memory was wanting
abbrev pub IsSpentOrMemory : RunEnd → Type 0
IsSpentOrMemory (run_ends.Spent tries last) = Unit {0}
IsSpentOrMemory (run_ends.Full part values adding) = ⊥
IsSpentOrMemory (run_ends.KeysFull map capacity) = ⊥
IsSpentOrMemory run_ends.Memory = Unit {0}

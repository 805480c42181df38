-- What a body leaves of its attempt, and how the attempts of one call end, by the steps in the trail.
use Rattle.std.specs.Prelude.{◌≡◌, ℕ, zero, suc, ◌+◌, ◌<◌, ◌≤◌, Bool, false, List, [], ◌++◌, length, slice_get, Some}
use Rattle.cell_table.specs.declared.view.Event.TheVariants.{ClockLoaded}
use Rattle.cell_table.specs.declared.view.Record.{Record}
use Rattle.cell_table.specs.Pass.{IsSole, trail_of, note}
use Rattle.cell_table.specs.Rule.{callers_of}
use Rattle.cell_table.specs.Steps.{IsIdle, Grows}
use Rattle.key_directory.specs.Directory as keys
use Rattle.key_directory.specs.Directory.{AreAllOthers}
use Rattle.key_directory.specs.declared.view.Step.{Step}
use Rattle.key_directory.specs.Words.{capacity_of}
use Rattle.serial_terms.specs.declared.call.Done.{Done}
use Rattle.serial_terms.specs.Renaming.{NamedDone, by_key, by_name}
use Rattle.serial_terms.specs.declared.sight.SightEnd.TheVariants.{Full}
use Rattle.serial_terms.specs.Sights.{Seen}
use Rattle.tx_core.specs.Calls.{NothingWaits}
use Rattle.tx_core.specs.Causes.{CausedSince, IsFound}
use Rattle.tx_core.specs.declared.stop.Stop.{Stop}
use Rattle.tx_core.specs.declared.stop.Stop.TheVariants.{Held, Newer, Memory}
use Rattle.tx_core.specs.declared.stop.TxState.TheVariants.{Running}
use Rattle.tx_core.specs.Tx.{Attempt}
use Rattle.tx_nest.specs.Ends.{Grew}
use Rattle.tx_store.specs.Children.{KeysGrow}
use Rattle.tx_store.specs.declared.commit.CommitEnd.{CommitEnd}
use Rattle.tx_store.specs.declared.commit.CommitEnd.TheVariants as commits
use Rattle.tx_store.specs.declared.run.BodyStop.{BodyStop}
use Rattle.tx_store.specs.declared.run.BodyStop.TheVariants as stops
use Rattle.tx_store.specs.declared.run.RunEnd.{RunEnd}
use Rattle.tx_store.specs.declared.run.RunEnd.TheVariants as run_ends
use Rattle.tx_store.specs.declared.run.TryEnd.{TryEnd}
use Rattle.tx_store.specs.declared.run.TryEnd.TheVariants.{Again, Ends}
use Rattle.tx_store.specs.Stores.{StoreView, PassView, TxView, IsPassOfStore}

-- ---- what a body leaves

-- steps between these moments found another key than this one at each position of the map
pub record IsFullBetween (old new : keys.PassView) (map capacity : ℕ) : Type 0 where
  pub all : capacity ≡ capacity_of new.directory.capacities map
  pub key : ℕ
  pub first : List Step
  pub next : List Step
  pub rest : List Step
  pub steps : new.trail ≡ first ++ (next ++ rest)
  pub since : length old.trail ≤ length first
  pub others : AreAllOthers new.directory.capacities next map key

module _ {M : Type 0} where
  -- an attempt that has done nothing
  pub record IsFresh (a : Attempt M NamedDone) : Type 0 where
    pub running : a.state ≡ Running
    pub before_commit : a.committing ≡ false
    pub notes : a.notes ≡ []
    pub observations : a.observations ≡ []
    pub writes : a.writes ≡ []
    pub waits : NothingWaits a

  -- it is the same attempt: on the same store, before its commit, with the caller numbers, books, room and draws that its pass had
  pub record IsSameAttempt (old new : TxView M) : Type 0 where
    pub store : new.store ≡ old.store
    pub before_commit : new.attempt.committing ≡ false
    pub books : new.attempt.pass.books ≡ old.attempt.pass.books
    pub callers : new.attempt.pass.view.books ≡ old.attempt.pass.view.books
    pub draws : new.attempt.pass.view.draws ≡ old.attempt.pass.view.draws
    pub room : new.attempt.pass.room ≡ old.attempt.pass.room
    pub version : old.attempt.version ≤ new.attempt.version
    pub trail : Grew (trail_of old.attempt.pass) (trail_of new.attempt.pass)
    pub grows : Grows old.attempt.pass.view new.attempt.pass.view
    pub keys : KeysGrow old.keys new.keys

  -- The stop has its cause between these moments, at a version that the attempt had meanwhile, since a dropped child may raise it.
  -- Nothing but want of memory stops a sole pass
  pub record IsStopBetween (old new : Attempt M NamedDone) (stop : Stop) : Type 0 where
    pub version : ℕ
    pub low : old.version ≤ version
    pub high : version ≤ new.version
    pub caused : CausedSince (callers_of old.pass.view.books) version (length (trail_of old.pass)) (trail_of new.pass) stop
    pub sole : IsSole old.pass → stop ≡ Memory

  -- a call between these moments gave the body its stop, unless it ran out of memory of its own
  abbrev pub IsBodyStop : TxView M → TxView M → BodyStop → Type 0
  IsBodyStop old new (stops.Stop stop) = IsStopBetween old.attempt new.attempt stop
  IsBodyStop old new (stops.KeysFull map capacity) = IsFullBetween old.keys new.keys map capacity

-- a stop for want of room for a key is one for which the body may stop
abbrev pub IfStopKeysFull : (ℕ → ℕ → Type 0) → BodyStop → Type 0
IfStopKeysFull full (stops.Stop stop) = Unit {0}
IfStopKeysFull full (stops.KeysFull map capacity) = full map capacity

-- ---- the attempts of one call

-- The calls with which a body answered: a record may have them, by their keys and by the keys' positions, and the body may run so
pub record IsAnswered {O : Type 0} (allows : List Done → Type 0) (runs : List Done → O → Type 0) (notes : List NamedDone) : Type 0 where
  pub allowed : allows (by_key notes)
  pub placed : allows (by_name notes)
  pub answer : O
  pub ran : runs (by_key notes) answer

module _ {M : Type 0} where
  -- What is left of a pass in any case: a pass of the store, which is idle, has the caller numbers and the room that it had, has used
  -- at most so many draws, and vouches for all that it vouched for
  pub record IsLeft (store : StoreView M) (tries : ℕ) (old new : PassView M) : Type 0 where
    pub of : IsPassOfStore store new
    pub idle : IsIdle new.pass.view
    pub callers : length new.pass.books ≡ length old.pass.books
    pub room : new.pass.room ≡ old.pass.room
    pub draws : old.pass.view.draws ≤ new.pass.view.draws + tries
    pub seen : old.pass.seen ≤ new.pass.seen
    pub trail : Grew (trail_of old.pass) (trail_of new.pass)
    pub grows : Grows old.pass.view new.pass.view
    pub keys : KeysGrow old.keys new.keys

  -- One attempt was committed: the acting caller's book has one record more, of allowed calls by which the body ran
  pub record IsCommittedRun {O : Type 0} (allows : List Done → Type 0) (runs : List Done → O → Type 0) (old new : PassView M) (out : O) : Type 0 where
    pub writer : Bool
    pub content : Record NamedDone
    pub books : new.pass.books ≡ note new.pass.seen writer content old.pass.books
    pub allowed : allows (by_key content.dones)
    pub ran : runs (by_key content.dones) out

  -- `Saw p seen` says that the pass p vouches for what was seen
  module _ (Saw : PassView M → Seen NamedDone → Type 0) where
    -- An attempt began with the one pass, by a load of the clock. It was ended by Held or Newer, with a cause since then, and aborted,
    -- which left the other pass. That one vouches for the calls that the attempt had made
    pub record AttemptEnded (p : PassView M) (stop : Stop) (q : PassView M) : Type 0 where
      pub found : IsFound stop
      pub begun : ℕ
      pub loaded : slice_get (trail_of q.pass) (length (trail_of p.pass)) ≡ Some (ClockLoaded begun)
      -- the version at which it was ended, which a dropped child may have raised
      pub version : ℕ
      pub raised : begun ≤ version
      pub caused : CausedSince (callers_of p.pass.view.books) version (suc (length (trail_of p.pass))) (trail_of q.pass) stop
      pub seen : Seen NamedDone
      pub since : version ≤ seen.place
      pub saw : Saw q seen

    -- so n attempts ended one after another, the last one by the stop. The first began with the pass p, and after the last it is q
    abbrev pub AttemptsEnded : ℕ → PassView M → Stop → PassView M → Type 0
    AttemptsEnded zero p stop q = q ≡ p
    AttemptsEnded (suc n) p stop q = (r : PassView M) × (s : Stop) × AttemptsEnded n p s r × AttemptEnded r stop q

    -- fewer than so many attempts ended so, which left the books as they were, and then P holds of the pass
    pub record AfterFewer (tries : ℕ) (p : PassView M) (P : PassView M → Type 0) : Type 0 where
      pub before : ℕ
      pub few : before < tries
      pub last : Stop
      pub pass : PassView M
      pub ended : AttemptsEnded before p last pass
      pub books : pass.pass.books ≡ p.pass.books
      pub ends : P pass

    -- The commit of an attempt whose body had answered found a queue or a log full, of which there are so many
    pub record FoundFull (parts : ℕ) (answered : List NamedDone → Type 0) (q : PassView M) (part values adding : ℕ) : Type 0 where
      pub there : part < parts
      pub seen : Seen NamedDone
      pub end : seen.end ≡ Full part values adding
      pub calls : answered seen.dones
      pub saw : Saw q seen

    module _ (parts : ℕ) (answered : List NamedDone → Type 0) where
      -- An attempt that began with the one pass and left the other was ended so: its commit found a part full, or its body a map, or memory
      -- was wanting
      abbrev pub IsLastEnd : PassView M → PassView M → RunEnd → Type 0
      IsLastEnd p q (run_ends.Spent n last) = ⊥
      IsLastEnd p q (run_ends.Full part values adding) = FoundFull parts answered q part values adding
      IsLastEnd p q (run_ends.KeysFull map capacity) = IsFullBetween p.keys q.keys map capacity
      IsLastEnd p q run_ends.Memory = Unit {0}

      -- Why no attempt was committed: as many as asked for ended by Held or Newer, or after fewer of these one ended otherwise
      abbrev pub IsRefusedRun : ℕ → PassView M → PassView M → RunEnd → Type 0
      IsRefusedRun tries p q (run_ends.Spent n last) = (n ≡ tries) × AttemptsEnded n p last q
      IsRefusedRun tries p q (run_ends.Full part values adding) = AfterFewer tries p (λ r. IsLastEnd r q (run_ends.Full part values adding))
      IsRefusedRun tries p q (run_ends.KeysFull map capacity) = AfterFewer tries p (λ r. IsLastEnd r q (run_ends.KeysFull map capacity))
      IsRefusedRun tries p q run_ends.Memory = AfterFewer tries p (λ r. Unit {0})

      -- how one attempt ended that wasn't committed
      abbrev pub IsTryEnd : PassView M → PassView M → TryEnd → Type 0
      IsTryEnd p q (Again stop) = AttemptEnded p stop q
      IsTryEnd p q (Ends end) = IsLastEnd p q end

-- not every attempt was ended by Held or Newer
abbrev pub IsNotSpent : RunEnd → Type 0
IsNotSpent (run_ends.Spent n last) = ⊥
IsNotSpent (run_ends.Full part values adding) = Unit {0}
IsNotSpent (run_ends.KeysFull map capacity) = Unit {0}
IsNotSpent run_ends.Memory = Unit {0}

-- an end for want of room for a key is one for which the body may stop
abbrev pub IfEndKeysFull : (ℕ → ℕ → Type 0) → RunEnd → Type 0
IfEndKeysFull full (run_ends.Spent n last) = Unit {0}
IfEndKeysFull full (run_ends.Full part values adding) = Unit {0}
IfEndKeysFull full (run_ends.KeysFull map capacity) = full map capacity
IfEndKeysFull full run_ends.Memory = Unit {0}

abbrev pub IfTryKeysFull : (ℕ → ℕ → Type 0) → TryEnd → Type 0
IfTryKeysFull full (Again stop) = Unit {0}
IfTryKeysFull full (Ends end) = IfEndKeysFull full end

-- ---- how one attempt ends the call, or is tried again

abbrev pub after_stop : BodyStop → TryEnd
after_stop (stops.Stop (Held cell owner)) = Again (Held cell owner)
after_stop (stops.Stop (Newer cell found)) = Again (Newer cell found)
after_stop (stops.Stop Memory) = Ends run_ends.Memory
after_stop (stops.KeysFull map capacity) = Ends (run_ends.KeysFull map capacity)

abbrev pub after_refusal : CommitEnd → TryEnd
after_refusal (commits.Held cell owner) = Again (Held cell owner)
after_refusal (commits.Newer cell found) = Again (Newer cell found)
after_refusal (commits.Full part values adding) = Ends (run_ends.Full part values adding)

-- the attempt isn't tried again
abbrev pub IsNotAgain : TryEnd → Type 0
IsNotAgain (Again stop) = ⊥
IsNotAgain (Ends end) = Unit {0}

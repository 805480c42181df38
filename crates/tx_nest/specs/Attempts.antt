-- An attempt that may open a child as contracts see it, and what the calls for a child leave of it.
use Rattle.std.specs.Prelude.{◌≡◌, ℕ, ◌≤◌, ◌⊎◌, Bool, false, List, ◌++◌, length}
use Rattle.cell_table.specs.declared.view.Event.{Event}
use Rattle.tx_core.specs.Causes.{CausedSince}
use Rattle.tx_core.specs.declared.stop.Stop.{Stop}
use Rattle.tx_core.specs.declared.stop.Stop.TheVariants.{Memory}
use Rattle.tx_core.specs.declared.stop.TxState.{TxState}
use Rattle.tx_core.specs.declared.stop.TxState.TheVariants.{Running, Child, ChildStopped, Stopped}
use Rattle.tx_nest.specs.Ends.{Grew, ClockedSince, IsRefusedRaise, IsSpent}
use Rattle.tx_nest.specs.declared.tries.NestEnd.{NestEnd}
use Rattle.tx_nest.specs.declared.tries.NestEnd.TheVariants.{Parent, Spent, Memory as NoMemory}

pub record AttemptView (Over Fixed Content Call : Type 0) : Type 0 where
  -- the table or store that it stands over
  pub over : Over
  -- what no child changes, as the callers' books and draws
  pub fixed : Fixed
  -- the caller numbers of its pass
  pub callers : List ℕ
  -- a call of its commit was made
  pub committing : Bool
  pub state : TxState
  pub version : ℕ
  pub calls : List Call
  -- the values that wait for the commit, by part
  pub pending : ℕ → List ℕ
  -- the calls and the waiting values among them, with the observations, writes and held cells
  pub content : Content
  -- what the mark remembers
  pub marked : Content
  pub trail : List Event

module _ {Over Fixed Content Call : Type 0} where
  -- a child may be opened: it runs, and its commit hasn't begun
  pub record MayOpen (a : AttemptView Over Fixed Content Call) : Type 0 where
    pub running : a.state ≡ Running
    pub before_commit : a.committing ≡ false

  -- its child is open, and runs
  pub record IsInChild (a : AttemptView Over Fixed Content Call) : Type 0 where
    pub child : a.state ≡ Child
    pub before_commit : a.committing ≡ false

  -- its child is open, stopped or not
  pub record HasChild (a : AttemptView Over Fixed Content Call) : Type 0 where
    pub child : (a.state ≡ Child) ⊎ (a.state ≡ ChildStopped)
    pub before_commit : a.committing ≡ false

  -- the same attempt, before its commit, with all that no child changes
  pub record IsSame (old new : AttemptView Over Fixed Content Call) : Type 0 where
    pub over : new.over ≡ old.over
    pub fixed : new.fixed ≡ old.fixed
    pub callers : new.callers ≡ old.callers
    pub before_commit : new.committing ≡ false

  -- it has what it had, and made no step
  pub record HasSame (old new : AttemptView Over Fixed Content Call) : Type 0 where
    pub version : new.version ≡ old.version
    pub calls : new.calls ≡ old.calls
    pub pending : new.pending ≡ old.pending
    pub content : new.content ≡ old.content
    pub trail : new.trail ≡ old.trail

  -- A child was opened: all that the attempt has is marked
  pub record IsOpened (old new : AttemptView Over Fixed Content Call) : Type 0 where
    pub state : new.state ≡ Child
    pub marked : new.marked ≡ old.content
    pub has : HasSame old new

  -- The child was dropped: the attempt has what the mark remembers
  pub record IsDropped (old new : AttemptView Over Fixed Content Call) : Type 0 where
    pub content : new.content ≡ old.marked
    pub version : old.version ≤ new.version
    pub trail : Grew old.trail new.trail

  -- The version is the word of a load of the clock, made since
  pub record IsRaised (old new : AttemptView Over Fixed Content Call) : Type 0 where
    pub state : new.state ≡ Running
    pub clocked : ClockedSince (length old.trail) new.trail new.version

  -- The clock was loaded and an observation no longer stands: the attempt is stopped, with its version as before
  pub record IsRefused (old new : AttemptView Over Fixed Content Call) (stop : Stop) : Type 0 where
    pub state : new.state ≡ Stopped
    pub version : new.version ≡ old.version
    pub cause : IsRefusedRaise old.callers old.version (length old.trail) new.trail stop

  -- ---- bodies

  -- A body ran in the open child: it goes back to the same mark, at the same version
  pub record StaysInChild (old new : AttemptView Over Fixed Content Call) : Type 0 where
    pub same : IsSame old new
    pub version : new.version ≡ old.version
    pub marked : new.marked ≡ old.marked
    pub trail : Grew old.trail new.trail

  -- calls with P were added
  abbrev pub HasAdded : (List Call → Type 0) → AttemptView Over Fixed Content Call → AttemptView Over Fixed Content Call → Type 0
  HasAdded P old new = (added : List Call) × (new.calls ≡ old.calls ++ added) × P added

  -- The child runs or is stopped, by a stop with its cause since
  pub record IsBodyStop (old new : AttemptView Over Fixed Content Call) (stop : Stop) : Type 0 where
    pub child : (new.state ≡ Child) ⊎ (new.state ≡ ChildStopped)
    pub cause : CausedSince old.callers old.version (length old.trail) new.trail stop

  -- ---- children that are tried again

  -- some children were run, one after another
  pub record GoesOn (old new : AttemptView Over Fixed Content Call) : Type 0 where
    pub same : IsSame old new
    pub version : old.version ≤ new.version
    pub trail : Grew old.trail new.trail

  -- no child was committed: the attempt is stopped by its own stop, or runs after so many children that ended by Held or Newer or where Memory has its cause
  abbrev pub EndsAs : ℕ → Type 0 → AttemptView Over Fixed Content Call → AttemptView Over Fixed Content Call → NestEnd → Type 0
  EndsAs tries ran_out old new (Parent stop) = (new.state ≡ Stopped) × IsRefusedRaise old.callers new.version (length old.trail) new.trail stop
  EndsAs tries ran_out old new (Spent n last) = (new.state ≡ Running) × (n ≡ tries) × IsSpent old.callers n old.version old.trail last new.version new.trail
  EndsAs tries ran_out old new NoMemory = (new.state ≡ Running) × ran_out

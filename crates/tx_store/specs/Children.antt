-- An attempt on a store as one that opens children.
use Rattle.std.specs.Prelude.{◌≡◌, ℕ, ◌≤◌, List, ◌++◌, length, Some}
use Rattle.attempt_lists.specs.Cells.{Entries}
use Rattle.attempt_lists.specs.Parts.{waiting_of}
use Rattle.cell_table.specs.Pass.{trail_of}
use Rattle.cell_table.specs.Rule.{callers_of}
use Rattle.cell_table.specs.Steps.{Grows}
use Rattle.key_directory.specs.Directory.{DirectoryView}
use Rattle.key_directory.specs.Directory as keys
use Rattle.key_directory.specs.declared.view.Claim.{Claim}
use Rattle.key_directory.specs.declared.view.Step.{Step}
use Rattle.serial_terms.specs.Renaming.{NamedDone}
use Rattle.tx_core.specs.Children.{Marked}
use Rattle.tx_nest.specs.Attempts.{AttemptView}
use Rattle.tx_nest.specs.OverTx as cells
use Rattle.tx_store.specs.Stores.{StoreView, TxView}

-- what a dropped child leaves as it was
pub record Content : Type 0 where
  pub observations : Entries
  pub writes : Entries
  pub notes : List NamedDone
  -- the held cells, each with its version
  pub held : List (ℕ × ℕ)
  -- the values that wait for the commit, by part
  pub waiting : ℕ → List ℕ

-- the same of the attempt on the cells, without the versions of what was observed
abbrev pub content_in : cells.Content NamedDone → Content
content_in c = record { observations = c.observations; writes = c.writes; notes = c.notes; held = c.held; waiting = c.waiting }

-- what a child leaves as it was, whether it is dropped or not
pub record Fixed : Type 0 where
  pub cells : cells.Fixed NamedDone
  pub directory : DirectoryView
  -- how many callers the pass of the directory has, and may have
  pub key_callers : ℕ
  pub key_room : ℕ

module _ {M : Type 0} where
  abbrev pub fixed_of : TxView M → Fixed
  fixed_of t = record { cells = cells.fixed_of t.attempt; directory = t.keys.directory; key_callers = t.keys.callers; key_room = t.keys.room }

  abbrev pub view_of : TxView M → AttemptView (StoreView M) Fixed Content NamedDone
  view_of t = record {
    over = t.store;
    fixed = fixed_of t;
    callers = callers_of t.attempt.pass.view.books;
    committing = t.attempt.committing;
    state = t.attempt.state;
    version = t.attempt.version;
    calls = t.attempt.notes;
    pending = λ p. waiting_of t.attempt.additions p;
    content = content_in (cells.content_of t.attempt);
    marked = content_in (cells.remembered_by t.attempt t.attempt.mark);
    trail = trail_of t.attempt.pass;
  }

  -- there is a mark, which counts no more observations and calls than there are
  abbrev pub HasMark : TxView M → Type 0
  HasMark t = (m : Marked) × (t.attempt.mark ≡ Some m) × (m.observations ≤ length t.attempt.observations) × (m.notes ≤ length t.attempt.notes)

-- the pass of the directory is the same, and may have claimed more
pub record KeysGrow (old new : keys.PassView) : Type 0 where
  pub directory : new.directory ≡ old.directory
  pub callers : new.callers ≡ old.callers
  pub room : new.room ≡ old.room
  pub claims : (more : List Claim) × (new.claims ≡ old.claims ++ more)
  pub trail : (more : List Step) × (new.trail ≡ old.trail ++ more)

-- On the same store, what was known of the cells and of the positions of keys is known
pub record GrowsOn {M : Type 0} (old new : TxView M) : Type 0 where
  pub store : new.store ≡ old.store
  pub cells : Grows old.attempt.pass.view new.attempt.pass.view
  pub keys : KeysGrow old.keys new.keys

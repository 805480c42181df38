-- What an attempt over cells has for its children.
use Rattle.std.specs.Prelude.{◌≡◌, ℕ, ◌<◌, ◌≤◌, List, length, take, Option, Some, None}
use Rattle.cell_table.specs.Pass.{TableState, trail_of}
use Rattle.cell_table.specs.Rule.{callers_of}
use Rattle.cell_table.specs.declared.view.Book.{Book}
use Rattle.cell_table.specs.declared.view.NotedBook.{NotedBook}
use Rattle.cell_table.specs.Steps.{Observes}
use Rattle.attempt_lists.specs.Cells.{Entries, cell_at, word_of}
use Rattle.attempt_lists.specs.Parts.{waiting_of, marked_of}
use Rattle.tx_core.specs.Children.{Marked}
use Rattle.tx_core.specs.Tx.{Attempt}
use Rattle.tx_nest.specs.Attempts.{AttemptView}

-- What a dropped child leaves as it was
pub record Content (D : Type 0) : Type 0 where
  pub observations : Entries
  pub versions : List ℕ
  pub writes : Entries
  pub notes : List D
  -- the held cells, each with its version
  pub held : List (ℕ × ℕ)
  -- the additions that wait, by part
  pub waiting : ℕ → List ℕ

-- What a child leaves as it was, whether it is dropped or not
pub record Fixed (D : Type 0) : Type 0 where
  -- the books of the pass, and as the rule of its steps has them
  pub books : List (NotedBook D)
  pub told : List (Book D)
  pub draws : ℕ
  -- the number of caller numbers of the table, and how many the pass may hold
  pub callers : ℕ
  pub room : ℕ

module _ {M D : Type 0} where
  abbrev pub content_of : Attempt M D → Content D
  content_of a = record { observations = a.observations; versions = a.versions; writes = a.writes; notes = a.notes; held = a.pass.view.held; waiting = λ part. waiting_of a.additions part }

  -- what the mark m says of the attempt
  abbrev pub remembered_by : Attempt M D → Option Marked → Content D
  remembered_by a None = content_of a
  remembered_by a (Some m) = record { observations = take m.observations a.observations; versions = take m.observations a.versions; writes = m.writes; notes = take m.notes a.notes; held = m.held; waiting = λ part. marked_of a.additions part }

  abbrev pub fixed_of : Attempt M D → Fixed D
  fixed_of a = record { books = a.pass.books; told = a.pass.view.books; draws = a.pass.view.draws; callers = a.pass.view.total; room = a.pass.room }

  abbrev pub view_of : Attempt M D → AttemptView (TableState M) (Fixed D) (Content D) D
  view_of a = record {
    over = a.table;
    fixed = fixed_of a;
    callers = callers_of a.pass.view.books;
    committing = a.committing;
    state = a.state;
    version = a.version;
    calls = a.notes;
    pending = λ part. waiting_of a.additions part;
    content = content_of a;
    marked = remembered_by a a.mark;
    trail = trail_of a.pass;
  }

  -- there is a mark, which counts no more observations and notes than there are
  abbrev pub HasMark : Attempt M D → Type 0
  HasMark a = (m : Marked) × (a.mark ≡ Some m) × (m.observations ≤ length a.observations) × (m.observations ≤ length a.versions) × (m.notes ≤ length a.notes)

  -- each observation stands at the place, by what the attempt knows
  abbrev pub Vouches : Attempt M D → Content D → ℕ → Type 0
  Vouches a c place = (i : ℕ) → i < length c.observations → Observes a.pass.view (cell_at c.observations i) (word_of c.observations i) place

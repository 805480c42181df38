-- What the stores of a commit leave in its pass.
use Rattle.std.specs.Prelude.{◌≡◌, ℕ, true, List, [], ◌∷◌}
use Rattle.cell_table.specs.declared.view.Record.{Record}
use Rattle.cell_table.specs.declared.view.Noted.{Noted}
use Rattle.cell_table.specs.declared.view.NotedBook.{NotedBook}
use Rattle.cell_table.specs.Steps.{Grows, IsStoredOrUndecided}
use Rattle.cell_table.specs.Pass.{PassState, note, version_drawn}
use Rattle.cell_table.specs.Writers.{replay, writers_in}
use Rattle.attempt_lists.specs.Cells.{Entries}

module _ {D : Type 0} where
  abbrev pub writes_of_last : List (Noted D) → Entries
  writes_of_last [] = []
  writes_of_last (e ∷ []) = e.content.writes
  writes_of_last (e ∷ f ∷ es) = writes_of_last (f ∷ es)

  -- what the newest record of the acting caller writes
  abbrev pub last_writes : List (NotedBook D) → Entries
  last_writes [] = []
  last_writes (b ∷ bs) = writes_of_last b.entries

module _ {M D : Type 0} where
  -- all values of the record are stored, and it stands in the acting caller's book at the drawn place
  pub record Stores (p q : PassState M D) (r : Record D) : Type 0 where
    pub stored : IsStoredOrUndecided q.view.stage
    pub books : q.books ≡ note (version_drawn p.view.stage) true r p.books
    pub seen : q.seen ≡ version_drawn p.view.stage
    pub grows : Grows p.view q.view
    pub known : q.view.known ≡ p.view.known
    pub draws : q.view.draws ≡ p.view.draws
    pub held : q.view.held ≡ p.view.held
    pub room : q.room ≡ p.room

  -- the cells after the writers of the pass's books
  abbrev pub cells_left : PassState M D → List ℕ
  cells_left p = replay p.view.opening (writers_in p.books)

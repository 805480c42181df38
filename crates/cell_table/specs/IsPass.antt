-- What is true of every pass.
use Rattle.std.specs.Prelude.{◌≡◌, ℕ, ◌<◌, ◌≤◌, true, false, cond, List, [], ◌∷◌, length, Some, None, Option}
use Rattle.cell_table.specs.Sorted.{Each}
use Rattle.cell_table.specs.Cells.{writes_to}
use Rattle.cell_table.specs.declared.view.Record.{Record}
use Rattle.cell_table.specs.declared.view.Book.{Book}
use Rattle.cell_table.specs.declared.view.Noted.{Noted}
use Rattle.cell_table.specs.declared.view.NotedBook.{NotedBook}
use Rattle.cell_table.specs.declared.view.View.{View}
use Rattle.cell_table.specs.declared.view.Stage.{Stage}
use Rattle.cell_table.specs.declared.view.Stage.TheVariants.{Open, Drawn, Decided}
use Rattle.cell_table.specs.Steps.{Observes, MayDecide}
use Rattle.cell_table.specs.Legal.{LegalNow}
use Rattle.cell_table.specs.Pass.{PassState}

module _ {D : Type 0} where
  -- the writers of a book, newest first, put before rs
  abbrev pub writers_after : List (ℕ × Record D) → List (Noted D) → List (ℕ × Record D)
  writers_after rs [] = rs
  writers_after rs (e ∷ es) = writers_after (cond e.writer ((e.place, e.content) ∷ rs) rs) es

  abbrev pub writer_books : List (NotedBook D) → List (Book D)
  writer_books [] = []
  writer_books (b ∷ bs) = record { caller = b.caller; records = writers_after [] b.entries } ∷ writer_books bs

  -- the places of a book never fall and begin at p or above, and a writer's is above all before it
  abbrev pub PlacesFrom : ℕ → List (Noted D) → Type 0
  PlacesFrom p [] = Unit {0}
  PlacesFrom p (e ∷ es) = (p ≤ e.place) × (e.writer ≡ true → p < e.place) × PlacesFrom e.place es

  -- the cells whose value is stored are written ones
  abbrev pub AreWritten : Stage D → Type 0
  AreWritten Open = Unit {0}
  AreWritten (Drawn u) = Unit {0}
  AreWritten (Decided u r stored) = Each (λ c. writes_to r.writes c ≡ true) stored

module _ {M D : Type 0} (explains : M → List (ℕ × ℕ) → List (ℕ × ℕ) → List D → Type 0) where
  -- a reader's record is explained, and its observations stand at its place
  abbrev pub IsReader : View M D → Noted D → Type 0
  IsReader v e = e.writer ≡ false → (e.place ≤ v.known) × (e.content.writes ≡ []) × ((m : M) → v.meaning ≡ Some m → explains m e.content.observations [] e.content.dones)
      × Each (λ o. (o.0 < length v.opening) × Observes v o.0 o.1 e.place) e.content.observations

  -- a plan may be decided at the version that is drawn
  abbrev pub IsPlanned : PassState M D → Option (Record D) → Type 0
  IsPlanned p None = Unit {0}
  IsPlanned p (Some r) = (u : ℕ) × (p.view.stage ≡ Drawn u) × MayDecide explains p.view u r × (0 < p.reserved)

module _ {M D : Type 0} (lawful : M → List ℕ → Type 0) (explains : M → List (ℕ × ℕ) → List (ℕ × ℕ) → List D → Type 0) where
  pub record IsPass (p : PassState M D) : Type 0 where
    pub acting : 0 < length p.view.books
    pub books : writer_books p.books ≡ p.view.books
    pub seen : p.seen ≤ p.view.known
    -- a drawn version is above all that the pass had seen
    pub drawn : (u : ℕ) → p.view.stage ≡ Drawn u → (p.seen < u) × (u ≤ p.view.known)
    -- no place of its books is above the one that it has seen
    pub places : Each (λ b. Each (λ e. e.place ≤ p.seen) b.entries) p.books
    pub ascending : Each (λ b. PlacesFrom 0 b.entries) p.books
    pub readers : Each (λ b. Each (IsReader explains p.view) b.entries) p.books
    pub planned : IsPlanned explains p p.plan
    pub written : AreWritten p.view.stage
    pub legal : LegalNow lawful explains p.view

-- What the steps of an attempt leave in its pass, and what an observation stands on.
use Rattle.std.specs.Prelude.{◌≡◌, ◌≢◌, ℕ, ◌-◌, ◌*◌, ◌^◌, ◌<◌, ◌≤◌, true, false, List, length, slice_index}
use Rattle.cell_table.specs.declared.view.View.{View}
use Rattle.cell_table.specs.Cells.{has}
use Rattle.cell_table.specs.Rule.{cells_of}
use Rattle.cell_table.specs.declared.view.Stage.TheVariants.{Open}
use Rattle.cell_table.specs.Sorted.{insert_by, Among}
use Rattle.cell_table.specs.Steps.{Grows, Reads, Validated, cell_key}
use Rattle.cell_table.specs.Pass.{PassState, with_view}
use Rattle.attempt_lists.specs.Cells.{Entries, cell_at}
use Rattle.tx_core.specs.declared.stop.Stop.{Stop}
use Rattle.tx_core.specs.Causes.{IsFoundAt, begun_of}

module _ {M D : Type 0} where
  -- loads of words: the view knows what it knew, and its attempt has come no further
  pub record IsLooked (v w : View M D) : Type 0 where
    pub grows : Grows v w
    pub books : w.books ≡ v.books
    pub draws : w.draws ≡ v.draws
    pub known : w.known ≡ v.known
    pub held : w.held ≡ v.held
    pub stage : w.stage ≡ v.stage
    pub begun : begun_of w.trail ≡ begun_of v.trail

  abbrev pub LooksOnly : PassState M D → PassState M D → Type 0
  LooksOnly p q = (q ≡ with_view p q.view) × IsLooked p.view q.view

  -- The version u of the cell has the value x, and is the newest one up to a place that is not below this version
  pub record StandsAt (v : View M D) (version cell x u : ℕ) : Type 0 where
    pub there : cell < length v.opening
    pub reads : Reads v cell u x
    pub low : u ≤ version
    pub small : 2 * u < 2 ^ 64
    pub upto : ℕ
    pub far : version ≤ upto
    pub near : upto ≤ v.known
    pub validated : Validated v cell u upto

  -- The version u of the cell has the value x: it stands at this version of the attempt, or it is newer and the cell is held
  pub record IsSeen (v : View M D) (version cell x u : ℕ) : Type 0 where
    pub there : cell < length v.opening
    pub reads : Reads v cell u x
    pub small : 2 * u < 2 ^ 64
    pub stands : u ≤ version → StandsAt v version cell x u
    pub held : version < u → has cell (cells_of v.held) ≡ true

  -- The stop was found at an observation of a cell that isn't held, and each such one before it is still the newest up to the place that the view knows
  pub record IsFirstChanged (v : View M D) (observations : Entries) (versions : List ℕ) (stop : Stop) : Type 0 where
    pub place : ℕ
    pub in_range : place < length observations
    pub free : has (cell_at observations place) (cells_of v.held) ≡ false
    pub found : IsFoundAt (cell_at observations place) stop
    pub before : (j : ℕ) → j < place → has (cell_at observations j) (cells_of v.held) ≡ false → Validated v (cell_at observations j) (slice_index versions j) v.known

  -- cells were given back: the pass knows what it knew, and its books are as before
  pub record GivesBack (p q : PassState M D) : Type 0 where
    pub grows : Grows p.view q.view
    pub known : q.view.known ≡ p.view.known
    pub draws : q.view.draws ≡ p.view.draws
    pub books : q.books ≡ p.books
    pub seen : q.seen ≡ p.seen
    pub room : q.room ≡ p.room
    pub reserved : q.reserved ≡ p.reserved

  -- the lock of a cell was taken at the version u, and nothing else came of the steps
  pub record Takes (p q : PassState M D) (cell u : ℕ) : Type 0 where
    pub is : q ≡ record p { view = q.view; places = p.places - 1 }
    pub grows : Grows p.view q.view
    pub books : q.view.books ≡ p.view.books
    pub draws : q.view.draws ≡ p.view.draws
    pub known : q.view.known ≡ p.view.known
    pub stage : q.view.stage ≡ p.view.stage
    pub begun : begun_of q.view.trail ≡ begun_of p.view.trail
    pub held : q.view.held ≡ insert_by cell_key (cell, u) p.view.held
    pub other : has cell (cells_of p.view.held) ≡ false

  -- the attempt of the view has come no further, but for cells that it holds
  pub record HoldsOnly (p q : PassState M D) : Type 0 where
    pub is : q ≡ record p { view = q.view; places = q.places }
    pub grows : Grows p.view q.view
    pub books : q.view.books ≡ p.view.books
    pub draws : q.view.draws ≡ p.view.draws
    pub known : q.view.known ≡ p.view.known
    pub stage : q.view.stage ≡ p.view.stage
    pub begun : begun_of q.view.trail ≡ begun_of p.view.trail

  -- Cells were given back before anything was decided or after all was stored: the attempt of the view has come no further, and those that are held have the versions that they had
  pub record Releases (p q : PassState M D) : Type 0 where
    pub gives : GivesBack p q
    pub callers : q.view.books ≡ p.view.books
    pub opens : p.view.stage ≡ Open → q.view.stage ≡ Open
    pub begun : begun_of q.view.trail ≡ begun_of p.view.trail
    pub places : p.places ≤ q.places
    pub fewer : (c : ℕ) → has c (cells_of q.view.held) ≡ true → has c (cells_of p.view.held) ≡ true
    pub kept : (t : ℕ × ℕ) → Among t p.view.held → has t.0 (cells_of q.view.held) ≡ true → Among t q.view.held

  -- the view knows more, and its attempt has come no further
  pub record KnowsMore (p q : PassState M D) : Type 0 where
    pub is : q ≡ with_view p q.view
    pub grows : Grows p.view q.view
    pub books : q.view.books ≡ p.view.books
    pub draws : q.view.draws ≡ p.view.draws
    pub held : q.view.held ≡ p.view.held
    pub stage : q.view.stage ≡ p.view.stage

  -- no other cell came or went
  abbrev pub SameOthers : PassState M D → PassState M D → ℕ → Type 0
  SameOthers p q cell = (c : ℕ) → c ≢ cell → has c (cells_of q.view.held) ≡ has c (cells_of p.view.held)

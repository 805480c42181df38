-- The writers of books in order of their places, and what they make of the cells.
use Rattle.std.specs.Prelude.{◌≡◌, ℕ, ◌<◌, ◌≤◌, cond, leb, List, [], ◌∷◌, length, slice_index}
use Rattle.cell_table.specs.Sorted.{merge_by}
use Rattle.cell_table.specs.Cells.{after, writes_to}
use Rattle.cell_table.specs.declared.view.Record.{Record}
use Rattle.cell_table.specs.declared.view.Book.{Book}
use Rattle.cell_table.specs.declared.view.NotedBook.{NotedBook}
use Rattle.cell_table.specs.Steps.{Observes, Validated}
use Rattle.cell_table.specs.Pass.{PassState}
use Rattle.cell_table.specs.IsPass.{writer_books}

module _ {D : Type 0} where
  abbrev pub place_key : ℕ × Record D → ℕ
  place_key t = t.0

  -- the records of all the books
  abbrev pub in_order : List (Book D) → List (ℕ × Record D)
  in_order [] = []
  in_order (b ∷ bs) = merge_by place_key b.records (in_order bs)

  abbrev pub writers_in : List (NotedBook D) → List (ℕ × Record D)
  writers_in bs = in_order (writer_books bs)

  -- those at the place p or below it
  abbrev pub up_to : ℕ → List (ℕ × Record D) → List (ℕ × Record D)
  up_to p [] = []
  up_to p (t ∷ ts) = cond (leb t.0 p) (t ∷ up_to p ts) (up_to p ts)

  -- the cells after the writers, one after another
  abbrev pub replay : List ℕ → List (ℕ × Record D) → List ℕ
  replay cells [] = cells
  replay cells (t ∷ ts) = replay (after cells t.1.writes) ts

  -- the place of the last writer that writes the cell, else u
  abbrev pub newest_after : ℕ → List (ℕ × Record D) → ℕ → ℕ
  newest_after u [] c = u
  newest_after u (t ∷ ts) c = newest_after (cond (writes_to t.1.writes c) t.0 u) ts c

  abbrev pub newest_in : List (ℕ × Record D) → ℕ → ℕ
  newest_in ts c = newest_after 0 ts c

module _ {M D : Type 0} where
  -- The pass has every caller number, so its books tell all that happened
  pub record Alone (p : PassState M D) : Type 0 where
    pub all : (q : ℕ) → p.seen ≤ q → up_to q (writers_in p.books) ≡ writers_in p.books
    -- a version that was the newest one up to q is that of the last writer of the cell up to q
    pub newest : (c u q : ℕ) → Validated p.view c u q → newest_in (up_to q (writers_in p.books)) c ≡ u
    -- what was observed at q is what the writers up to q left
    pub observed : (c x q : ℕ) → c < length p.view.opening → Observes p.view c x q → slice_index (replay p.view.opening (up_to q (writers_in p.books))) c ≡ x

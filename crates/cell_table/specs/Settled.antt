-- What stands at the end, where one pass has every caller number.
use Rattle.std.specs.Prelude.{◌≡◌, ℕ, ◌+◌, ◌*◌, ◌^◌, ◌<◌, ◌≤◌, true, false, List, [], length, slice_index, Some}
use Rattle.cell_table.specs.Sorted.{Each}
use Rattle.cell_table.specs.Cells.{AllHold, has}
use Rattle.cell_table.specs.History.{Outcome, decided, cells_at, version_at, records_by}
use Rattle.cell_table.specs.declared.view.Record.{Record}
use Rattle.cell_table.specs.Rule.{callers_of}
use Rattle.cell_table.specs.Moments.{Moments}
use Rattle.cell_table.specs.Pass.{PassState}
use Rattle.cell_table.specs.Writers.{writers_in, up_to, replay, newest_in}

-- the values and the versions of the cells
pub record Words : Type 0 where
  pub values : List ℕ
  pub versions : List ℕ

module _ {M D : Type 0} (lawful : M → List ℕ → Type 0) (explains : M → List (ℕ × ℕ) → List (ℕ × ℕ) → List D → Type 0) where
  -- The cells are those after the writers of the pass's books, in order of their places
  pub record Settled (p : PassState M D) (w : Words) : Type 0 where
    pub meaning : M
    -- what became of each version, and how many were drawn
    pub history : ℕ → Outcome D
    pub clock : ℕ
    -- each draw is left, or was made
    pub draws : clock + p.view.draws ≡ p.view.total * 2 ^ 48
    pub is : p.view.meaning ≡ Some meaning
    pub known : p.view.known ≤ clock
    -- the history has the writers of the books and no others
    pub books : Each (λ b. (b.caller < p.view.total) × (b.records ≡ records_by b.caller history clock)) p.view.books
    pub callers : (w k : ℕ) (r : Record D) → history w ≡ decided k r → (0 < w) × (w ≤ clock) × (k < p.view.total)
    -- every caller number of the table has its book here
    pub every : (k : ℕ) → k < p.view.total → has k (callers_of p.view.books) ≡ true
    pub moments : Moments lawful explains meaning p.view history
    -- a reader is explained, and its observations hold at its place
    pub readers : Each (λ b. Each (λ e. e.writer ≡ false → (e.place ≤ clock) × (e.content.writes ≡ []) × explains meaning e.content.observations [] e.content.dones × AllHold (cells_at p.view.opening history e.place) e.content.observations) b.entries) p.books
    pub values : w.values ≡ cells_at p.view.opening history clock
    pub versions : (c : ℕ) → c < length p.view.opening → slice_index w.versions c ≡ version_at history c clock
    -- the same by the books alone
    pub replayed : (q : ℕ) → cells_at p.view.opening history q ≡ replay p.view.opening (up_to q (writers_in p.books))
    pub values_left : w.values ≡ replay p.view.opening (writers_in p.books)
    pub versions_left : (c : ℕ) → c < length p.view.opening → slice_index w.versions c ≡ newest_in (writers_in p.books) c

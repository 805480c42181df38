-- What a history says of the cells at each place, where a view fits it.
use Rattle.std.specs.Prelude.{◌≡◌, ℕ, ◌-◌, ◌<◌, List, length, slice_index}
use Rattle.cell_table.specs.Cells.{AllHold}
use Rattle.cell_table.specs.History.{Outcome, decided, cells_at}
use Rattle.cell_table.specs.declared.view.Record.{Record}
use Rattle.cell_table.specs.declared.view.View.{View}
use Rattle.cell_table.specs.Steps.{Observes}

module _ {M D : Type 0} (lawful : M → List ℕ → Type 0) (explains : M → List (ℕ × ℕ) → List (ℕ × ℕ) → List D → Type 0) where
  pub record Moments (m : M) (v : View M D) (history : ℕ → Outcome D) : Type 0 where
    -- the cells at a place are those after the writers up to it, and they are lawful
    pub lawful_there : (q : ℕ) → lawful m (cells_at v.opening history q)
    pub sized : (q : ℕ) → length (cells_at v.opening history q) ≡ length v.opening
    -- a writer is explained, and its observations hold just before its place
    pub writers : (w k : ℕ) (r : Record D) → history w ≡ decided k r → explains m r.observations r.writes r.dones × AllHold (cells_at v.opening history (w - 1)) r.observations
    -- all that the view observes holds at its place, for an attempt that was dropped too
    pub observed : (c x q : ℕ) → c < length v.opening → Observes v c x q → slice_index (cells_at v.opening history q) c ≡ x

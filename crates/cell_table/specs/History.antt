-- The history of a table: what became of each drawn version. It exists in the rule alone.
use Rattle.std.specs.Prelude.{◌≡◌, ℕ, zero, suc, ◌<◌, ◌≤◌, Bool, true, false, cond, eqb, List, [], ◌∷◌, ◌⊎◌, slice_index}
use Rattle.cell_table.specs.Cells.{after, writes_to, written, has}
use Rattle.cell_table.specs.declared.view.Record.{Record}

-- a drawn version belongs to no attempt, to one of this caller that still holds these cells, or to a decided writer
pub data Outcome (D : Type 0) : Type 0 where
  unused : Outcome D
  pending : ℕ → List ℕ → Outcome D
  decided : ℕ → Record D → Outcome D

module _ {D : Type 0} where
  abbrev pub upd : (ℕ → Outcome D) → ℕ → Outcome D → ℕ → Outcome D
  upd h u d w = cond (eqb w u) d (h w)

  abbrev pub touches : Outcome D → ℕ → Bool
  touches unused c = false
  touches (pending k H) c = false
  touches (decided k r) c = writes_to r.writes c

  abbrev pub left_in : Outcome D → ℕ → ℕ → ℕ
  left_in unused c x = x
  left_in (pending k H) c x = x
  left_in (decided k r) c x = written x r.writes c

  abbrev pub effect : Outcome D → List ℕ → List ℕ
  effect unused cells = cells
  effect (pending k H) cells = cells
  effect (decided k r) cells = after cells r.writes

  -- the cells after the decided writes of versions up to p
  abbrev pub cells_at : List ℕ → (ℕ → Outcome D) → ℕ → List ℕ
  cells_at opening h zero = opening
  cells_at opening h (suc p) = effect (h (suc p)) (cells_at opening h p)

  -- the value of one cell then, which was x at the opening, and the version that left it
  abbrev pub value_at : ℕ → (ℕ → Outcome D) → ℕ → ℕ → ℕ
  value_at x h c zero = x
  value_at x h c (suc p) = left_in (h (suc p)) c (value_at x h c p)

  abbrev pub version_at : (ℕ → Outcome D) → ℕ → ℕ → ℕ
  version_at h c zero = 0
  version_at h c (suc p) = cond (touches (h (suc p)) c) (suc p) (version_at h c p)

  -- the decided records of a caller up to p, newest first
  abbrev pub noted : ℕ → Outcome D → ℕ → List (ℕ × Record D) → List (ℕ × Record D)
  noted k unused p rs = rs
  noted k (pending j H) p rs = rs
  noted k (decided j r) p rs = cond (eqb j k) ((p, r) ∷ rs) rs

  abbrev pub records_by : ℕ → (ℕ → Outcome D) → ℕ → List (ℕ × Record D)
  records_by k h zero = []
  records_by k h (suc p) = noted k (h (suc p)) (suc p) (records_by k h p)

  -- no undecided writer drawn at or below p holds the cell
  abbrev pub Unheld : (ℕ → Outcome D) → ℕ → ℕ → Type 0
  Unheld h c p = (w k : ℕ) (H : List ℕ) → w ≤ p → h w ≡ pending k H → has c H ≡ false

  -- 0, or the version of a decided write of the cell
  abbrev pub IsVersion : (ℕ → Outcome D) → ℕ → ℕ → Type 0
  IsVersion h c u = (u ≡ 0) ⊎ ((0 < u) × (touches (h u) c ≡ true))

  -- the version u of the cell c is x
  abbrev pub IsValue : List ℕ → (ℕ → Outcome D) → ℕ → ℕ → ℕ → Type 0
  IsValue opening h c u x = IsVersion h c u × (value_at (slice_index opening c) h c u ≡ x)

  -- u is the newest version at p, and no writer that may still decide at or below p can change that
  abbrev pub IsNewest : (ℕ → Outcome D) → ℕ → ℕ → ℕ → Type 0
  IsNewest h c u p = (version_at h c p ≡ u) × Unheld h c p

  -- the cell has x at the place p, for good
  abbrev pub Stands : List ℕ → (ℕ → Outcome D) → ℕ → ℕ → ℕ → Type 0
  Stands opening h c x p = (value_at (slice_index opening c) h c p ≡ x) × Unheld h c p

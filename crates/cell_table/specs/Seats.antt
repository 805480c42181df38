-- How a pass is kept at run time.
use Rattle.std.specs.Prelude.{◌≡◌, ℕ, suc, ◌-◌, ◌^◌, ◌<◌, ◌≤◌, Bool, true, false, cond, eqb, List, [], ◌∷◌, length, slice_index_or, vec_len, vec_capacity, Some, None, Option}
use Rattle.cell_table.specs.Sorted.{Each, IsAscendingBy}
use Rattle.cell_table.specs.Cells.{has}
use Rattle.cell_table.specs.declared.view.Record.{Record}
use Rattle.cell_table.specs.declared.view.Noted.{Noted}
use Rattle.cell_table.specs.declared.view.NotedBook.{NotedBook}
use Rattle.cell_table.specs.declared.view.View.{View}
use Rattle.cell_table.specs.declared.view.Stage.{Stage}
use Rattle.cell_table.specs.declared.view.Stage.TheVariants.{Open, Drawn, Decided}
use Rattle.cell_table.specs.declared.entry.Entry.{Entry}
use Rattle.cell_table.specs.declared.entry.Plan.{Plan}
use Rattle.cell_table.specs.declared.entry.Ledger.{Ledger}
use Rattle.cell_table.specs.declared.entry.HeldCell.{HeldCell}

module _ {D : Type 0} where
  abbrev pub record_of : Plan D → Record D
  record_of p = record { observations = p.observations.items; writes = p.writes.items; dones = p.dones.items }

  abbrev pub noted_of : Entry D → Noted D
  noted_of e = record { place = e.place; writer = e.writer; content = record { observations = e.observations.items; writes = e.writes.items; dones = e.dones.items } }

  abbrev pub noted_all : List (Entry D) → List (Noted D)
  noted_all [] = []
  noted_all (e ∷ es) = noted_of e ∷ noted_all es

  abbrev pub noted_book : Ledger D → NotedBook D
  noted_book l = record { caller = l.caller; entries = noted_all l.entries.items }

  abbrev pub noted_books : List (Ledger D) → List (NotedBook D)
  noted_books [] = []
  noted_books (l ∷ ls) = noted_book l ∷ noted_books ls

  -- the room for entries in the first ledger
  abbrev pub reserved_in : List (Ledger D) → ℕ
  reserved_in [] = 0
  reserved_in (l ∷ ls) = vec_capacity l.entries - vec_len l.entries

  abbrev pub plan_of : Option (Plan D) → Option (Record D)
  plan_of None = None
  plan_of (Some p) = Some (record_of p)

  -- after the draw, d is the drawn version
  abbrev pub FitsDrawn : Stage D → ℕ → Type 0
  FitsDrawn Open d = Unit {0}
  FitsDrawn (Drawn u) d = d ≡ u
  FitsDrawn (Decided u r stored) d = d ≡ u

  abbrev pub is_stored : Stage D → ℕ → Bool
  is_stored Open c = false
  is_stored (Drawn u) c = false
  is_stored (Decided u r stored) c = has c stored

  abbrev pub FitsFlags : Stage D → List HeldCell → Type 0
  FitsFlags st hs = Each (λ h. h.stored ≡ is_stored st h.cell) hs

abbrev pub pairs_of : List HeldCell → List (ℕ × ℕ)
pairs_of [] = []
pairs_of (h ∷ hs) = (h.cell, h.version) ∷ pairs_of hs

abbrev pub held_key : HeldCell → ℕ
held_key h = h.cell

abbrev pub ledger_key : {D : Type 0} → Ledger D → ℕ
ledger_key l = l.caller

-- What ties the fields of a pass to its view
module _ {M D : Type 0} where
  pub record Tied (v : View M D) (hs : List HeldCell) (d n : ℕ) : Type 0 where
    pub draws : n ≡ v.draws
    pub held : pairs_of hs ≡ v.held
    pub sorted : IsAscendingBy held_key hs
    pub flags : FitsFlags v.stage hs
    pub drawn : FitsDrawn v.stage d
    -- each version fits a lock word
    pub small : d < 2 ^ 63
    pub fits : Each (λ h. h.version < 2 ^ 63) hs

-- at items of the list have a smaller cell than c, and the others a greater one or c itself
abbrev pub IsPoint : ℕ → List HeldCell → ℕ → Type 0
IsPoint c hs at = (at ≤ length hs) × ((k : ℕ) (d : HeldCell) → k < at → (slice_index_or hs k d).cell < c) × ((k : ℕ) (d : HeldCell) → at ≤ k → k < length hs → c ≤ (slice_index_or hs k d).cell)

abbrev pub flag_in : ℕ → List HeldCell → Bool
flag_in c [] = false
flag_in c (h ∷ hs) = cond (eqb h.cell c) h.stored (flag_in c hs)

abbrev pub mark : ℕ → List HeldCell → List HeldCell
mark c [] = []
mark c (h ∷ hs) = record { cell = h.cell; version = h.version; stored = cond (eqb h.cell c) true h.stored } ∷ mark c hs

abbrev pub without_held : ℕ → List HeldCell → List HeldCell
without_held c [] = []
without_held c (h ∷ hs) = cond (eqb h.cell c) (without_held c hs) (h ∷ without_held c hs)

-- the ledgers of the callers from k on, with no entry
abbrev pub AreFresh : {D : Type 0} → ℕ → ℕ → List (Ledger D) → Type 0
AreFresh k n [] = n ≡ 0
AreFresh k n (l ∷ ls) = (0 < n) × (l.caller ≡ k) × (l.entries.items ≡ []) × (vec_capacity l.entries ≡ 0) × AreFresh (suc k) (n - 1) ls

-- the first at ledgers are of callers up to k, and the next one is of a greater caller
abbrev pub IsGap : {D : Type 0} → ℕ → List (Ledger D) → ℕ → Type 0
IsGap {D} k ls at = (at ≤ length ls) × ((i : ℕ) (d : Ledger D) → i < at → (slice_index_or ls i d).caller ≤ k) × (at < length ls → (d : Ledger D) → k < (slice_index_or ls at d).caller)

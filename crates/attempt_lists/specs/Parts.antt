-- Additions that wait for the commit, by part.
use Rattle.std.specs.Prelude.{◌≡◌, ◌≢◌, ℕ, List, [], ◌∷◌, nat_eq, if◌then◌else◌}

-- the additions to one part: those that wait, and those that waited at the mark
pub record Waiting : Type 0 where
  pub part : ℕ
  pub waiting : List ℕ
  pub marked : List ℕ

-- the additions to the part that wait, in the order in which they came
abbrev pub waiting_of : List Waiting → ℕ → List ℕ
waiting_of [] part = []
waiting_of (p ∷ ps) part = if nat_eq p.part part then p.waiting else waiting_of ps part

-- those that waited at the mark
abbrev pub marked_of : List Waiting → ℕ → List ℕ
marked_of [] part = []
marked_of (p ∷ ps) part = if nat_eq p.part part then p.marked else marked_of ps part

-- the part has these additions waiting, and all else is as before
pub record ChangesOnly (old new : List Waiting) (part : ℕ) (waiting : List ℕ) : Type 0 where
  pub changed : waiting_of new part ≡ waiting
  pub others : (q : ℕ) → q ≢ part → waiting_of new q ≡ waiting_of old q
  pub marked : (q : ℕ) → marked_of new q ≡ marked_of old q

-- the part with what waits marked, with what is marked waiting, and with neither
abbrev pub marks : Waiting → Waiting
marks p = record p { marked = p.waiting }

abbrev pub restores : Waiting → Waiting
restores p = record p { waiting = p.marked }

abbrev pub clears : Waiting → Waiting
clears p = record p { waiting = []; marked = [] }

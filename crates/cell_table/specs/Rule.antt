-- The rule that holds between any two steps.
-- Word 0 is the version clock. Behind it each cell has a lock word and a value.
-- A free lock word is twice a version, a held one is twice a caller number plus 1.
use Rattle.std.specs.Prelude.{◌≡◌, ◌≢◌, ℕ, zero, suc, ◌+◌, ◌-◌, ◌*◌, ◌/◌, ◌^◌, ◌<◌, ◌≤◌, true, false, cond, eqb, ◌⊎◌, List, [], ◌∷◌, length, slice_index, Some}
use mathlib.Core.Option.{some}
use lib.ListN.{get_elem?}
use Rattle.atomic_table.specs.Table.{State}
use Rattle.cell_table.specs.Sorted.{Each, IsAscendingBy}
use Rattle.cell_table.specs.Cells.{writes_to, has}
use Rattle.cell_table.specs.History.{Outcome, unused, pending, decided, value_at, version_at, records_by, IsVersion, IsValue, IsNewest, Stands}
use Rattle.cell_table.specs.declared.view.Record.{Record}
use Rattle.cell_table.specs.declared.view.Book.{Book}
use Rattle.cell_table.specs.declared.view.Event.{Event}
use Rattle.cell_table.specs.declared.view.Event.TheVariants.{ClockLoaded, LockLoaded, ValueLoaded, LockExchanged, VersionDrawn, ValueStored, LockStored, SeatMoved}
use Rattle.cell_table.specs.declared.view.View.{View}
use Rattle.cell_table.specs.declared.view.Stage.{Stage}
use Rattle.cell_table.specs.declared.view.Stage.TheVariants.{Open, Drawn, Decided}
use Rattle.cell_table.specs.declared.view.OpenRead.{OpenRead}
use Rattle.cell_table.specs.declared.view.OpenRead.TheVariants.{NoRead, LockRead, ValueRead}

abbrev pub clock_of : List ℕ → ℕ
clock_of ws = slice_index ws 0

-- where the words of a cell are, and the cell whose word is there
abbrev pub lock_place : ℕ → ℕ
lock_place c = 2 * c + 1

abbrev pub value_place : ℕ → ℕ
value_place c = 2 * c + 2

abbrev pub cell_of_lock : ℕ → ℕ
cell_of_lock place = (place - 1) / 2

abbrev pub cell_of_value : ℕ → ℕ
cell_of_value place = (place - 2) / 2

-- how many words a table of so many cells has
abbrev pub words_for : ℕ → ℕ
words_for cells = 2 * cells + 1

abbrev pub lock_of : List ℕ → ℕ → ℕ
lock_of ws c = slice_index ws (lock_place c)

abbrev pub word_of : List ℕ → ℕ → ℕ
word_of ws c = slice_index ws (value_place c)

abbrev pub cells_of : List (ℕ × ℕ) → List ℕ
cells_of [] = []
cells_of (t ∷ ts) = t.0 ∷ cells_of ts

abbrev pub without : ℕ → List (ℕ × ℕ) → List (ℕ × ℕ)
without c [] = []
without c (t ∷ ts) = cond (eqb t.0 c) (without c ts) (t ∷ without c ts)

-- the caller under which a seat with these books acts
abbrev pub actor : {D : Type 0} → List (Book D) → ℕ → ℕ
actor [] d = d
actor (b ∷ bs) d = b.caller

abbrev pub callers_of : {D : Type 0} → List (Book D) → List ℕ
callers_of [] = []
callers_of (b ∷ bs) = b.caller ∷ callers_of bs

module _ {D : Type 0} (opening : List ℕ) (h : ℕ → Outcome D) (ws : List ℕ) where
  abbrev pub newest : ℕ → ℕ
  newest c = version_at h c (clock_of ws)

  abbrev pub value_now : ℕ → ℕ
  value_now c = value_at (slice_index opening c) h c (clock_of ws)

  -- the kept version is the newest one, and the word is its value
  abbrev pub IsClean : ℕ × ℕ → Type 0
  IsClean t = (newest t.0 ≡ t.1) × (word_of ws t.0 ≡ value_now t.0)

  -- the word of a held cell is still the value of the version that it had
  abbrev pub IsUnstored : ℕ × ℕ → Type 0
  IsUnstored t = (t.1 ≤ clock_of ws) × IsValue opening h t.0 t.1 (word_of ws t.0)

  -- a cell that a decided writer holds: a written one has the version u, and the planned value once that is stored
  abbrev pub IsSettled : ℕ → Record D → List ℕ → ℕ × ℕ → Type 0
  IsSettled u r stored t = (writes_to r.writes t.0 ≡ true → (newest t.0 ≡ u) × (has t.0 stored ≡ true → word_of ws t.0 ≡ value_now t.0) × (has t.0 stored ≡ false → IsUnstored t)) × (writes_to r.writes t.0 ≡ false → IsClean t)

  abbrev pub FitsStage : ℕ → List (ℕ × ℕ) → Stage D → Type 0
  FitsStage k held Open = Each IsClean held
  FitsStage k held (Drawn u) = (0 < u) × (u ≤ clock_of ws) × (h u ≡ pending k (cells_of held)) × Each (λ t. IsClean t × (t.1 < u)) held × ((w : ℕ) (r : Record D) → u < w → h w ≢ decided k r)
  FitsStage k held (Decided u r stored) = (0 < u) × (u ≤ clock_of ws) × (h u ≡ decided k r) × Each (IsSettled u r stored) held

  -- a read may go on where the version is still the newest
  abbrev pub FitsRead : OpenRead → Type 0
  FitsRead NoRead = Unit {0}
  FitsRead (LockRead c u) = (c < length opening) × (u ≤ newest c) × (newest c ≡ u → word_of ws c ≡ value_now c)
  FitsRead (ValueRead c u x) = (c < length opening) × (u ≤ newest c) × (newest c ≡ u → x ≡ value_now c)

-- n is the clock: each place is at most the clock, and each version found in a free lock word is 0 or that of a decided write
abbrev pub FitsEvent : {D : Type 0} → (ℕ → Outcome D) → ℕ → Event → Type 0
FitsEvent h n (ClockLoaded p) = p ≤ n
FitsEvent h n (LockLoaded c w) = (u : ℕ) → w ≡ 2 * u → (u ≤ n) × IsVersion h c u
FitsEvent h n (ValueLoaded c w) = Unit {0}
FitsEvent h n (LockExchanged c w) = (u : ℕ) → w ≡ 2 * u → (u ≤ n) × IsVersion h c u
FitsEvent h n (VersionDrawn p) = p ≤ n
FitsEvent h n (ValueStored c w) = Unit {0}
FitsEvent h n (LockStored c w) = Unit {0}
FitsEvent h n SeatMoved = Unit {0}

-- the least caller number first
abbrev pub IsAscending : {D : Type 0} → List (Book D) → Type 0
IsAscending bs = IsAscendingBy (λ b. b.caller) bs

-- A view fits the history and the words. `owner` says which seat has a caller number.
pub record Fits {M D : Type 0} (m : M) (opening : List ℕ) (total : ℕ) (owner : ℕ → ℕ) (h : ℕ → Outcome D) (ws : List ℕ) (id : ℕ) (v : View M D) : Type 0 where
  pub same : 0 < length v.books → (v.meaning ≡ Some m) × (v.opening ≡ opening) × (v.total ≡ total)
  pub high : total ≤ v.total
  -- a view without a caller has no draw
  pub spent : length v.books ≡ 0 → v.draws ≡ 0
  pub books : Each (λ b. (owner b.caller ≡ id) × (b.caller < total) × (b.records ≡ records_by b.caller h (clock_of ws))) v.books
  pub order : IsAscending v.books
  pub known : v.known ≤ clock_of ws
  pub values : Each (λ t. (t.1 ≤ clock_of ws) × IsValue opening h t.0 t.1 t.2) v.values
  pub validations : Each (λ t. (t.2 ≤ clock_of ws) × IsNewest h t.0 t.1 t.2) v.validations
  pub trail : Each (FitsEvent h (clock_of ws)) v.trail
  pub locks : Each (λ t. lock_of ws t.0 ≡ 2 * actor v.books v.total + 1) v.held
  pub mine : (j c : ℕ) → owner j ≡ id → lock_of ws c ≡ 2 * j + 1 → (j ≡ actor v.books v.total) × (has c (cells_of v.held) ≡ true)
  pub stage : FitsStage opening h ws (actor v.books v.total) v.held v.stage
  pub stale : (j w : ℕ) (H : List ℕ) → owner j ≡ id → h w ≡ pending j H → (H ≡ []) ⊎ ((v.stage ≡ Drawn w) × (j ≡ actor v.books v.total))
  pub reading : FitsRead opening h ws v.reading

abbrev pub draws_left : {M D : Type 0} → List (View M D) → ℕ
draws_left [] = 0
draws_left (v ∷ vs) = v.draws + draws_left vs

module _ {M D : Type 0} (lawful : M → List ℕ → Type 0) (explains : M → List (ℕ × ℕ) → List (ℕ × ℕ) → List D → Type 0) where
  -- a decided record is explained, and what it observed stands just before its place
  abbrev pub IsRecord : M → List ℕ → (ℕ → Outcome D) → ℕ → Record D → Type 0
  IsRecord m opening h w r = (0 < w) × explains m r.observations r.writes r.dones × Each (λ o. (o.0 < length opening) × Stands opening h o.0 o.1 (w - 1)) r.observations

  pub record Rule (m : M) (opening : List ℕ) (total : ℕ) (s : State (Unit {0}) (View M D)) : Type 0 where
    pub owner : ℕ → ℕ
    pub placed : (k : ℕ) → owner k < length s.views
    pub history : ℕ → Outcome D
    pub wide : length s.words ≡ words_for (length opening)
    pub small : total ≤ 4096
    pub lawful_opening : lawful m opening
    pub fresh : (w : ℕ) → clock_of s.words < w → history w ≡ unused
    pub cells : (c : ℕ) → c < length opening → ((u : ℕ) × (lock_of s.words c ≡ 2 * u) × IsClean opening history s.words (c, u)) ⊎ ((k : ℕ) × (lock_of s.words c ≡ 2 * k + 1) × (k < total))
    pub barred : (w k : ℕ) (H : List ℕ) (c : ℕ) → history w ≡ pending k H → has c H ≡ true → lock_of s.words c ≡ 2 * k + 1
    pub records : (w k : ℕ) (r : Record D) → history w ≡ decided k r → IsRecord m opening history w r
    pub callers : (w k : ℕ) (r : Record D) → history w ≡ decided k r → k < total
    pub views : (j : ℕ) (v : View M D) → get_elem? s.views j ≡ some v → Fits m opening total owner history s.words j v
    -- each draw is left in a view, or was made
    pub budget : draws_left s.views + clock_of s.words ≡ total * 2 ^ 48

abbrev pub new_books : {D : Type 0} → ℕ → ℕ → List (Book D)
new_books k zero = []
new_books k (suc n) = record { caller = k; records = [] } ∷ new_books (suc k) n

abbrev pub first_view : {M D : Type 0} → M → List ℕ → ℕ → View M D
first_view m opening callers = record { meaning = Some m; opening = opening; total = callers; books = new_books 0 callers; draws = callers * 2 ^ 48; known = 0; values = []; validations = []; trail = []; held = []; stage = Open; reading = NoRead }

-- the words at the opening
abbrev pub words_of : List ℕ → List ℕ
words_of [] = []
words_of (x ∷ xs) = 0 ∷ x ∷ words_of xs

abbrev pub start_words : List ℕ → List ℕ
start_words xs = 0 ∷ words_of xs

-- the values and the versions among a table's words, where each lock is free
abbrev pub values_after : List ℕ → List ℕ
values_after [] = []
values_after (l ∷ []) = []
values_after (l ∷ x ∷ ws) = x ∷ values_after ws

abbrev pub versions_after : List ℕ → List ℕ
versions_after [] = []
versions_after (l ∷ []) = []
versions_after (l ∷ x ∷ ws) = l / 2 ∷ versions_after ws

abbrev pub values_in : List ℕ → List ℕ
values_in [] = []
values_in (n ∷ ws) = values_after ws

abbrev pub versions_in : List ℕ → List ℕ
versions_in [] = []
versions_in (n ∷ ws) = versions_after ws

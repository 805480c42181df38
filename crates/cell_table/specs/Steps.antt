-- What each step makes of the view of the seat that steps.
use Rattle.std.specs.Prelude.{◌≡◌, ℕ, zero, suc, ◌+◌, ◌-◌, ◌*◌, ◌/◌, ◌%◌, ◌<◌, ◌≤◌, true, false, cond, eqb, leb, max, ◌⊎◌, List, [], ◌∷◌, ◌++◌, length, reverse, slice_get, Some, None, Result, Ok, Err}
use Rattle.cell_table.specs.Sorted.{Each, Among, insert_by, merge_by}
use Rattle.cell_table.specs.Cells.{writes_to, has, Leaves}
use Rattle.cell_table.specs.declared.view.Record.{Record}
use Rattle.cell_table.specs.declared.view.Book.{Book}
use Rattle.cell_table.specs.declared.view.Event.{Event}
use Rattle.cell_table.specs.declared.view.Event.TheVariants.{ClockLoaded, LockLoaded, ValueLoaded, LockExchanged, VersionDrawn, ValueStored, LockStored, SeatMoved}
use Rattle.cell_table.specs.declared.view.View.{View}
use Rattle.cell_table.specs.declared.view.Stage.{Stage}
use Rattle.cell_table.specs.declared.view.Stage.TheVariants.{Open, Drawn, Decided}
use Rattle.cell_table.specs.declared.view.OpenRead.{OpenRead}
use Rattle.cell_table.specs.declared.view.OpenRead.TheVariants.{NoRead, LockRead, ValueRead}
use Rattle.cell_table.specs.Rule.{actor, callers_of, cells_of, without}

abbrev pub Triples : Type 0
Triples = List (ℕ × ℕ × ℕ)

abbrev pub cell_key : ℕ × ℕ → ℕ
cell_key t = t.0

abbrev pub caller_key : {D : Type 0} → Book D → ℕ
caller_key b = b.caller

-- the version u of the cell was the newest up to `known`
abbrev pub add_validation : ℕ → ℕ → ℕ → Triples → Triples
add_validation c u known ss = cond (leb u known) ((c, u, known) ∷ ss) ss

abbrev pub validate_all : List (ℕ × ℕ) → ℕ → Triples → Triples
validate_all [] p ss = ss
validate_all (t ∷ ts) p ss = (t.0, t.1, p) ∷ validate_all ts p ss

-- while nothing is drawn, no one else can change a held cell
abbrev pub validate_open : {D : Type 0} → Stage D → List (ℕ × ℕ) → ℕ → Triples → Triples
validate_open Open held p ss = validate_all held p ss
validate_open (Drawn u) held p ss = ss
validate_open (Decided u r stored) held p ss = ss

-- the last load of a read found the version that the first one had found
abbrev pub add_read : OpenRead → ℕ → ℕ → Triples → Triples
add_read NoRead c u vs = vs
add_read (LockRead d w) c u vs = vs
add_read (ValueRead d w x) c u vs = cond (eqb d c) (cond (eqb w u) ((c, u, x) ∷ vs) vs) vs

abbrev pub add_kept : List (ℕ × ℕ) → ℕ → ℕ → Triples → Triples
add_kept [] c x vs = vs
add_kept (t ∷ ts) c x vs = cond (eqb t.0 c) ((t.0, t.1, x) ∷ add_kept ts c x vs) (add_kept ts c x vs)

abbrev pub add_held : {D : Type 0} → Stage D → List (ℕ × ℕ) → ℕ → ℕ → Triples → Triples
add_held Open held c x vs = add_kept held c x vs
add_held (Drawn u) held c x vs = add_kept held c x vs
add_held (Decided u r stored) held c x vs = vs

abbrev pub next_read : OpenRead → ℕ → ℕ → OpenRead
next_read NoRead c x = NoRead
next_read (LockRead d u) c x = cond (eqb d c) (ValueRead d u x) NoRead
next_read (ValueRead d u y) c x = NoRead

abbrev pub after_release : {D : Type 0} → List (ℕ × ℕ) → Stage D → Stage D
after_release [] st = Open
after_release (t ∷ ts) st = st

abbrev pub more_stored : {D : Type 0} → ℕ → Stage D → Stage D
more_stored c Open = Open
more_stored c (Drawn u) = Drawn u
more_stored c (Decided u r stored) = Decided u r (c ∷ stored)

-- the first n books, and the others
abbrev pub first_books : {D : Type 0} → ℕ → List (Book D) → List (Book D)
first_books zero bs = []
first_books (suc n) [] = []
first_books (suc n) (b ∷ bs) = b ∷ first_books n bs

abbrev pub last_books : {D : Type 0} → ℕ → List (Book D) → List (Book D)
last_books zero bs = bs
last_books (suc n) [] = []
last_books (suc n) (b ∷ bs) = last_books n bs

-- the acting caller's book with one more record
abbrev pub enter : {D : Type 0} → ℕ → Record D → List (Book D) → List (Book D)
enter u r [] = []
enter u r (b ∷ bs) = record { caller = b.caller; records = (u, r) ∷ b.records } ∷ bs

-- the version that a cell had when its lock was taken
abbrev pub kept_in : ℕ → List (ℕ × ℕ) → ℕ
kept_in c [] = 0
kept_in c (t ∷ ts) = cond (eqb t.0 c) t.1 (kept_in c ts)

-- the version that a cell is given back with: the drawn one where a decided writer wrote it
abbrev pub due : {D : Type 0} → ℕ → List (ℕ × ℕ) → Stage D → ℕ
due c held Open = kept_in c held
due c held (Drawn u) = kept_in c held
due c held (Decided u r stored) = cond (writes_to r.writes c) u (kept_in c held)

-- the attempt is undecided, or all its values are stored
abbrev pub IsStoredOrUndecided : {D : Type 0} → Stage D → Type 0
IsStoredOrUndecided Open = Unit {0}
IsStoredOrUndecided (Drawn u) = Unit {0}
IsStoredOrUndecided (Decided u r stored) = (d : ℕ) → writes_to r.writes d ≡ true → has d stored ≡ true

abbrev pub IsUndecided : {D : Type 0} → Stage D → Type 0
IsUndecided Open = Unit {0}
IsUndecided (Drawn u) = Unit {0}
IsUndecided (Decided u r stored) = ⊥

-- the seat's decided writer leaves x in this cell, which it holds
abbrev pub MayStore : {D : Type 0} → ℕ → ℕ → List (ℕ × ℕ) → Stage D → Type 0
MayStore c x held Open = ⊥
MayStore c x held (Drawn u) = ⊥
MayStore c x held (Decided u r stored) = (has c (cells_of held) ≡ true) × Leaves r.writes c x

-- a step of the trail found the lock of the cell free, at the version w
abbrev pub FoundFree : List Event → ℕ → ℕ → Type 0
FoundFree trail c w = (k : ℕ) × ((slice_get trail k ≡ Some (LockLoaded c (2 * w))) ⊎ (slice_get trail k ≡ Some (LockExchanged c (2 * w))))

module _ {M D : Type 0} where
  abbrev pub clocked : View M D → ℕ → View M D
  clocked v r = record v { known = r; validations = validate_open v.stage v.held r v.validations; trail = ClockLoaded r ∷ v.trail }

  -- the lock word r was free
  abbrev pub free_look : View M D → ℕ → ℕ → View M D
  free_look v c r = record v { values = add_read v.reading c (r / 2) v.values; validations = add_validation c (r / 2) v.known v.validations; reading = LockRead c (r / 2); trail = LockLoaded c r ∷ v.trail }

  abbrev pub held_look : View M D → ℕ → ℕ → View M D
  held_look v c r = record v { trail = LockLoaded c r ∷ v.trail }

  abbrev pub looked : View M D → ℕ → ℕ → View M D
  looked v c r = cond (eqb (r % 2) 0) (free_look v c r) (held_look v c r)

  abbrev pub valued : View M D → ℕ → ℕ → View M D
  valued v c x = record v { values = add_held v.stage v.held c x v.values; reading = next_read v.reading c x; trail = ValueLoaded c x ∷ v.trail }

  -- the lock was taken at the version u
  abbrev pub taken : View M D → ℕ → ℕ → View M D
  taken v c u = record v { held = insert_by cell_key (c, u) v.held; validations = add_validation c u v.known v.validations; trail = LockExchanged c (2 * u) ∷ v.trail }

  -- the exchange found another word
  abbrev pub missed : View M D → ℕ → ℕ → View M D
  missed v c r = record v { validations = cond (eqb (r % 2) 0) (add_validation c (r / 2) v.known v.validations) v.validations; trail = LockExchanged c r ∷ v.trail }

  abbrev pub drawn : View M D → ℕ → View M D
  drawn v u = record v { stage = Drawn u; draws = v.draws - 1; known = u; validations = validate_all v.held (u - 1) v.validations; trail = VersionDrawn u ∷ v.trail }

  -- the first value of a writer is stored, which decides it
  abbrev pub first_put : View M D → ℕ → Record D → ℕ → ℕ → View M D
  first_put v u r c x = record v { stage = Decided u r (c ∷ []); books = enter u r v.books; trail = ValueStored c x ∷ v.trail }

  abbrev pub next_put : View M D → ℕ → ℕ → View M D
  next_put v c x = record v { stage = more_stored c v.stage; trail = ValueStored c x ∷ v.trail }

  abbrev pub given : View M D → ℕ → ℕ → View M D
  given v c n = record v { held = without c v.held; stage = after_release (without c v.held) v.stage; trail = LockStored c n ∷ v.trail }

  -- what a seat keeps of n callers and d draws, and what the new seat gets
  abbrev pub kept_part : ℕ → ℕ → View M D → View M D
  kept_part n d v = record v { books = first_books n v.books; draws = v.draws - d; reading = NoRead; trail = SeatMoved ∷ v.trail }

  abbrev pub new_part : ℕ → ℕ → View M D → View M D
  new_part n d v = record v { books = last_books n v.books; draws = d; reading = NoRead; held = []; stage = Open; trail = SeatMoved ∷ v.trail }

  -- what two seats know together
  abbrev pub both_parts : View M D → View M D → View M D
  both_parts v w = record v { books = merge_by caller_key w.books v.books; draws = v.draws + w.draws; known = max v.known w.known; values = v.values ++ w.values; validations = v.validations ++ w.validations; trail = SeatMoved ∷ (w.trail ++ v.trail); reading = NoRead }

  -- a seat with no caller
  abbrev pub spent_part : View M D
  spent_part = record { meaning = None; opening = []; total = 4096; books = []; draws = 0; known = 0; values = []; validations = []; trail = []; held = []; stage = Open; reading = NoRead }

  -- it holds no cell, so its attempt is over
  abbrev pub IsIdle : View M D → Type 0
  IsIdle v = (v.stage ≡ Open) × (v.held ≡ [])

  -- the version u of the cell has the value x, for good
  abbrev pub Reads : View M D → ℕ → ℕ → ℕ → Type 0
  Reads v c u x = Among (c, u, x) v.values

  -- the version u of the cell is the newest one up to the place q, for good
  abbrev pub Validated : View M D → ℕ → ℕ → ℕ → Type 0
  Validated v c u q = Among (c, u, q) v.validations

  -- the cell has x at the place p, for good
  abbrev pub Observes : View M D → ℕ → ℕ → ℕ → Type 0
  Observes v c x p = (u : ℕ) × (q : ℕ) × Reads v c u x × Validated v c u q × (u ≤ p) × (p ≤ q)

  -- each held cell whose value is known has that value at the place p
  abbrev pub HeldStand : View M D → View M D → ℕ → Type 0
  HeldStand v w p = (c u x : ℕ) → Among (c, u) v.held → Reads v c u x → Observes w c x p

  -- What a step leaves for good: what the view knew, and which table it is of
  pub record Grows (v w : View M D) : Type 0 where
    pub meaning : w.meaning ≡ v.meaning
    pub opening : w.opening ≡ v.opening
    pub total : w.total ≡ v.total
    pub known : v.known ≤ w.known
    pub values : (t : ℕ × ℕ × ℕ) → Among t v.values → Among t w.values
    pub validations : (t : ℕ × ℕ × ℕ) → Among t v.validations → Among t w.validations

  -- A word that the lock of c can have: twice a version, which isn't below one that the trail already has for this cell, or twice a caller number plus 1.
  -- Of the caller numbers of this view only the acting one ever holds a cell, and exactly those that the view lists.
  abbrev pub IsWord : View M D → ℕ → ℕ → Type 0
  IsWord v c r = ((u : ℕ) × (r ≡ 2 * u) × (has c (cells_of v.held) ≡ false) × ((w : ℕ) → FoundFree (reverse v.trail) c w → w ≤ u))
      ⊎ ((k : ℕ) × (r ≡ 2 * k + 1) × (k < v.total) × (has c (cells_of v.held) ≡ true → k ≡ actor v.books v.total) × (has k (callers_of v.books) ≡ true → (k ≡ actor v.books v.total) × (has c (cells_of v.held) ≡ true)))

module _ {M D : Type 0} (explains : M → List (ℕ × ℕ) → List (ℕ × ℕ) → List D → Type 0) where
  -- The record r may be decided at u: it is explained, and all that it observed stands just before u
  pub record MayDecide (v : View M D) (u : ℕ) (r : Record D) : Type 0 where
    pub explained : (m : M) → v.meaning ≡ Some m → explains m r.observations r.writes r.dones
    pub observed : Each (λ o. (o.0 < length v.opening) × Observes v o.0 o.1 (u - 1)) r.observations

-- each cell that is written is held
abbrev pub AllHeld : List (ℕ × ℕ) → List (ℕ × ℕ) → Type 0
AllHeld writes held = (d : ℕ) → writes_to writes d ≡ true → has d (cells_of held) ≡ true

-- the word that a compare-exchange found
abbrev pub word_found : ℕ → Result (Unit {0}) ℕ → ℕ
word_found from (Ok done) = from
word_found from (Err found) = found

-- Why an attempt is stopped, by the steps in the trail.
use Rattle.std.specs.Prelude.{◌≡◌, ℕ, ◌+◌, ◌*◌, ◌<◌, ◌≤◌, false, ◌⊎◌, List, [], ◌∷◌, ◌++◌, length, slice_get, Some, IsSome}
use Rattle.cell_table.specs.Cells.{has}
use Rattle.cell_table.specs.declared.view.Event.{Event}
use Rattle.cell_table.specs.declared.view.Event.TheVariants.{ClockLoaded, LockLoaded, ValueLoaded, LockExchanged, VersionDrawn, ValueStored, LockStored, SeatMoved}
use Rattle.attempt_lists.specs.Cells.{Entries, word_at}
use Rattle.tx_core.specs.declared.stop.Stop.{Stop}
use Rattle.tx_core.specs.declared.stop.Stop.TheVariants.{Held, Newer, Memory}

-- a load or a compare-exchange of the cell's lock word, from place n of the trail on, found this word
abbrev pub FoundSince : ℕ → List Event → ℕ → ℕ → Type 0
FoundSince n trail cell word = (k : ℕ) × (n ≤ k) × ((slice_get trail k ≡ Some (LockLoaded cell word)) ⊎ (slice_get trail k ≡ Some (LockExchanged cell word)))

-- The stop has its cause from place n of the trail on. These are the caller numbers and the version of the attempt.
-- Held: a lock word was that of a caller outside these. Newer: a lock word was free at a version above the attempt's, or above one that the trail has for the cell.
abbrev pub CausedSince : List ℕ → ℕ → ℕ → List Event → Stop → Type 0
CausedSince callers version n trail (Held cell owner) = (has owner callers ≡ false) × FoundSince n trail cell (2 * owner + 1)
CausedSince callers version n trail (Newer cell found) = ((version < found) ⊎ ((v : ℕ) × (v < found) × FoundSince 0 trail cell (2 * v))) × FoundSince n trail cell (2 * found)
CausedSince callers version n trail Memory = Unit {0}

-- the stop is of this cell, or want of memory
abbrev pub IsOfCell : ℕ → Stop → Type 0
IsOfCell cell (Held c owner) = c ≡ cell
IsOfCell cell (Newer c found) = c ≡ cell
IsOfCell cell Memory = Unit {0}

-- the stop was found at this cell
abbrev pub IsFoundAt : ℕ → Stop → Type 0
IsFoundAt cell (Held c owner) = c ≡ cell
IsFoundAt cell (Newer c found) = c ≡ cell
IsFoundAt cell Memory = ⊥

-- the stop was found at this cell, and has its cause from place n of the trail on
abbrev pub IsCausedAt : ℕ → List ℕ → ℕ → ℕ → List Event → Stop → Type 0
IsCausedAt cell callers version n trail stop = CausedSince callers version n trail stop × IsFoundAt cell stop

-- the stop was found at a cell of the list
abbrev pub IsOfOne : Entries → Stop → Type 0
IsOfOne entries stop = (c : ℕ) × IsSome (word_at entries c) × IsFoundAt c stop

-- it is not want of memory
abbrev pub IsFound : Stop → Type 0
IsFound (Held cell owner) = Unit {0}
IsFound (Newer cell found) = Unit {0}
IsFound Memory = ⊥

-- the stop was found, and has its cause from place n of the trail on
abbrev pub IsCaused : List ℕ → ℕ → ℕ → List Event → Stop → Type 0
IsCaused callers version n trail stop = CausedSince callers version n trail stop × IsFound stop

-- Newer: another version of the cell, a lower one, was found from place n of the trail on
abbrev pub FoundTwice : ℕ → List Event → Stop → Type 0
FoundTwice n trail (Held cell owner) = Unit {0}
FoundTwice n trail (Newer cell found) = (v : ℕ) × (v < found) × FoundSince n trail cell (2 * v)
FoundTwice n trail Memory = Unit {0}

-- how many steps there were before the newest load of the clock, by a trail whose newest step comes first
abbrev pub begun_of : List Event → ℕ
begun_of [] = 0
begun_of (ClockLoaded r ∷ es) = length es
begun_of (LockLoaded c w ∷ es) = begun_of es
begun_of (ValueLoaded c x ∷ es) = begun_of es
begun_of (LockExchanged c w ∷ es) = begun_of es
begun_of (VersionDrawn u ∷ es) = begun_of es
begun_of (ValueStored c x ∷ es) = begun_of es
begun_of (LockStored c w ∷ es) = begun_of es
begun_of (SeatMoved ∷ es) = begun_of es

-- the trail grew by at most so many steps
abbrev pub GrewBy : ℕ → List Event → List Event → Type 0
GrewBy n old new = (more : List Event) × (new ≡ old ++ more) × (length more ≤ n)

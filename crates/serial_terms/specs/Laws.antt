-- The laws of the serial structures and of histories, each as one statement.
use Rattle.std.specs.Prelude.{◌≡◌, ◌≢◌, ◌↔◌, ℕ, ◌<◌, ◌≤◌, IsTrue, IsFalse, List, [], ◌∷◌, ◌++◌, length, Option, Some}
use Rattle.serial_terms.specs.declared.call.Call.{Call}
use Rattle.serial_terms.specs.declared.call.Reply.{Reply}
use Rattle.serial_terms.specs.declared.call.Done.{Done}
use Rattle.serial_terms.specs.declared.store.Layout.{Layout}
use Rattle.serial_terms.specs.Entries.{Entry, Each, IsIn, IsInOrder, IsInPlaceOrder, StandsBefore, Precedes, OneWriterAPlace, WritersArePlaced, up_to, merged, AreOfTheirPlaces, by_caller, IsCountedFrom, Book, AreBooks, IsHistoryOf, IsBookFrom, total, total_of_books}
use Rattle.serial_terms.specs.Histories.{Runs, IsLegalRun, IsLegalHistory, IsStateAt}
use Rattle.serial_terms.specs.Kinds.{HasKind}
use Rattle.serial_terms.specs.Parts.{part, IsReading}
use Rattle.serial_terms.specs.Renaming.{IsOneToOne, NamedDone, AreNamesOfKeys, by_key, by_name, by_keys, entries_with, seen_with, AreNamesIn, MayName, SameButKeys}
use Rattle.serial_terms.specs.Runs.{ExplainThemselves}
use Rattle.serial_terms.specs.Serial.{State, Allows, after, IsReplied, step, IsWithinCapacity, pool_of, less, more, put_map, put_queue, put_pool, put_log, put_cell, Pool}
use Rattle.serial_terms.specs.Sights.{Seen, AreInSightOrder, IsConsistent}
use Rattle.serial_terms.specs.Stores.{opening_of}

-- calls one after another run as the first ones and then the others
abbrev pub RunsInParts : Type 0
RunsInParts = (xs ys : List Done) (s u : State) → Runs s (xs ++ ys) u ↔ ((t : State) × Runs s xs t × Runs t ys u)

-- a list of calls with their replies runs from a state to one state only
abbrev pub RunsToOneState : Type 0
RunsToOneState = (ds : List Done) (s t u : State) → Runs s ds t → Runs s ds u → t ≡ u

-- calls about different parts do not see one another, and leave one state in either order
abbrev pub PartsCommute : Type 0
PartsCommute = (s : State) (c d : Call) (q r : Reply) → part c ≢ part d
    → (Allows (after s c q) d r ↔ Allows s d r) × (after (after s c q) d r ≡ after (after s d r) c q)

-- calls that change nothing leave the state
abbrev pub ReadingLeavesState : Type 0
ReadingLeavesState = (ds : List Done) (s t : State) → Each IsReading ds → Runs s ds t → t ≡ s

-- each reply that the structures may give is of its call's kind
abbrev pub RepliesHaveKinds : Type 0
RepliesHaveKinds = (ds : List Done) (s t : State) → Runs s ds t → Each HasKind ds

-- no call changes a capacity or a number of slots
abbrev pub SizesStay : Type 0
SizesStay = (ds : List Done) (s t : State) → Runs s ds t → (n : ℕ)
    → ((t.queues n).capacity ≡ (s.queues n).capacity) × ((t.pools n).slots ≡ (s.pools n).slots)
    × ((t.logs n).capacity ≡ (s.logs n).capacity)

-- a take leaves the other items, wherever the item stood; a give adds one
abbrev pub PoolsAreCounts : Type 0
PoolsAreCounts = (n x : ℕ) (before behind : List ℕ)
    → (less (pool_of n (before ++ x ∷ behind)) x ≡ pool_of n (before ++ behind))
    × (more (pool_of n (before ++ behind)) x ≡ pool_of n (before ++ x ∷ behind))

-- the state at a place is what a beginning of the history runs to, and the rest runs on from it
abbrev pub StatesAtPlaces : Type 0
StatesAtPlaces = (history : List (Entry Done)) (start end : State) (t : ℕ) → IsInOrder history
    → IsLegalRun start history end
    → (later : List (Entry Done)) × (history ≡ up_to t history ++ later)
    × ((s : State) × IsLegalRun start (up_to t history) s × IsLegalRun s later end)

-- keys may be renamed one to one, and no reply changes: the calls by key run exactly where the calls by name do, and to the same state by keys
abbrev pub RenamingKeepsRuns : Type 0
RenamingKeepsRuns = (name : ℕ → ℕ → Option ℕ) → IsOneToOne name → (ds : List NamedDone) → AreNamesOfKeys name ds
    → (s : State)
    → ((t : State) → Runs s (by_name ds) t → Runs (by_keys name s) (by_key ds) (by_keys name t))
    × ((u : State) → Runs (by_keys name s) (by_key ds) u → (t : State) × Runs s (by_name ds) t × (u ≡ by_keys name t))

-- so histories may be renamed, and what was seen of them. Nothing is in the maps of an opening
pub record RenamingKeepsHistories (name : ℕ → ℕ → Option ℕ) : Type 0 where
  pub opening : (layout : Layout) → by_keys name (opening_of layout) ≡ opening_of layout
  pub runs : (es : List (Entry NamedDone)) → AreNamesIn name es → (s t : State)
      → IsLegalRun s (entries_with by_name es) t → IsLegalRun (by_keys name s) (entries_with by_key es) (by_keys name t)
  pub histories : (es : List (Entry NamedDone)) → AreNamesIn name es → (s t : State)
      → IsLegalHistory s (entries_with by_name es) t → IsLegalHistory (by_keys name s) (entries_with by_key es) (by_keys name t)
  pub sights : (es : List (Entry NamedDone)) → AreNamesIn name es → (v : Seen NamedDone) → AreNamesOfKeys name v.dones
      → (queues : ℕ) (s : State) → IsConsistent queues s (entries_with by_name es) (seen_with by_name v)
      → IsConsistent queues (by_keys name s) (entries_with by_key es) (seen_with by_key v)

-- calls by name are those by key but for the keys, where each name is one that its key may have; and they are the same calls where a
-- map holds only the keys below its capacity
pub record NamesChangeKeys (passes : ℕ → ℕ → Type 0) : Type 0 where
  pub renamed : (name : ℕ → ℕ → Option ℕ) → ((m k n : ℕ) → name m k ≡ Some n → MayName passes n k)
      → (ds : List NamedDone) → AreNamesOfKeys name ds → SameButKeys passes (by_key ds) (by_name ds)
  pub own : ((c j : ℕ) → passes c j → j < c) → (ds es : List Done) → SameButKeys passes ds es → es ≡ ds

-- where each key's name is the key itself, nothing is renamed
abbrev pub OwnNamesAreKeys : Type 0
OwnNamesAreKeys = (name : ℕ → ℕ → Option ℕ) → ((m k n : ℕ) → name m k ≡ Some n → n ≡ k)
    → (ds : List NamedDone) → AreNamesOfKeys name ds → by_name ds ≡ by_key ds

-- two lists of records in the order of a history that have the same members are one
abbrev pub OrderIsUnique : Type 0
OrderIsUnique = (xs ys : List (Entry Done)) → IsInOrder xs → IsInOrder ys
    → ((x : Entry Done) → IsIn x xs → IsIn x ys) → ((x : Entry Done) → IsIn x ys → IsIn x xs) → xs ≡ ys

-- two lists in the order of sights that have the same sights of each caller are one
abbrev pub SightOrderIsUnique : Type 0
SightOrderIsUnique = (own : ℕ → List (Seen Done)) (xs ys : List (Seen Done)) → AreInSightOrder own xs → AreInSightOrder own ys → xs ≡ ys

-- ---- runs of records

-- records one after another run as the first ones and then the others
abbrev pub RecordsRunInParts : Type 0
RecordsRunInParts = (xs ys : List (Entry Done)) (s u : State)
    → IsLegalRun s (xs ++ ys) u ↔ ((t : State) × IsLegalRun s xs t × IsLegalRun t ys u)

-- records leave one state only
abbrev pub RecordsLeaveOneState : Type 0
RecordsLeaveOneState = (es : List (Entry Done)) (s t u : State) → IsLegalRun s es t → IsLegalRun s es u → t ≡ u

-- they change no capacity and no number of slots, each of their replies is of its call's kind, and they leave a state within its
-- capacities
pub record AreKept (es : List (Entry Done)) (s t : State) : Type 0 where
  pub sizes : (n : ℕ) → ((t.queues n).capacity ≡ (s.queues n).capacity) × ((t.pools n).slots ≡ (s.pools n).slots)
      × ((t.logs n).capacity ≡ (s.logs n).capacity)
  pub kinds : Each (λ e. Each HasKind e.dones) es
  pub within : IsWithinCapacity s → IsWithinCapacity t

abbrev pub RecordsKeepSizes : Type 0
RecordsKeepSizes = (es : List (Entry Done)) (s t : State) → IsLegalRun s es t → AreKept es s t

-- where a structure within its capacity is put, the state stays within its capacities
pub record CapacitiesStay : Type 0 where
  pub opening : (layout : Layout) → IsWithinCapacity (opening_of layout)
  pub queue : (s : State) (q : ℕ) (xs : List ℕ) → IsWithinCapacity s → length xs ≤ (s.queues q).capacity → IsWithinCapacity (put_queue s q xs)
  pub log : (s : State) (l : ℕ) (xs : List ℕ) → IsWithinCapacity s → length xs ≤ (s.logs l).capacity → IsWithinCapacity (put_log s l xs)
  pub map : (s : State) (m k : ℕ) (v : Option ℕ) → IsWithinCapacity s → IsWithinCapacity (put_map s m k v)
  pub pool : (s : State) (p : ℕ) (x : Pool) → IsWithinCapacity s → IsWithinCapacity (put_pool s p x)
  pub cell : (s : State) (c v : ℕ) → IsWithinCapacity s → IsWithinCapacity (put_cell s c v)

-- a read-only record sees the end of a history that has no writer at a later place
abbrev pub LastReadsSeeEnd : Type 0
LastReadsSeeEnd = (history : List (Entry Done)) (start end : State) → IsInPlaceOrder history
    → IsLegalRun start history end → (e : Entry Done) → IsIn e history → IsFalse e.writer
    → Each (λ x. IsTrue x.writer → x.place ≤ e.place) history → Runs end e.dones end

-- the records of one caller one after another are a history, but for what the calls do
abbrev pub OneBookIsAHistory : Type 0
OneBookIsAHistory = (k : ℕ) (history : List (Entry Done)) → IsBookFrom k 0 0 history
    → IsInOrder history × ((j : ℕ) → IsCountedFrom 0 (by_caller j history)) × OneWriterAPlace history × WritersArePlaced history

-- the order of a history is that by place
abbrev pub OrderIsByPlace : Type 0
OrderIsByPlace = (history : List (Entry Done)) → IsInOrder history → IsInPlaceOrder history

-- ---- records merged place by place

-- they stand in the order of a history, one writer a place, and up to an earlier place they are those merged so far
abbrev pub MergedIsInOrder : Type 0
MergedIsInOrder = (writer : ℕ → Option (Entry Done)) (readers : ℕ → List (Entry Done)) → AreOfTheirPlaces Precedes writer readers
    → (p : ℕ) → IsInOrder (merged writer readers p) × OneWriterAPlace (merged writer readers p)
    × ((t : ℕ) → t ≤ p → up_to t (merged writer readers p) ≡ merged writer readers t)

-- and they are a legal run where each record explains itself by the states at the places
abbrev pub MergedIsLegal : Type 0
MergedIsLegal = (writer : ℕ → Option (Entry Done)) (readers : ℕ → List (Entry Done)) (state : ℕ → State)
    → AreOfTheirPlaces StandsBefore writer readers → ExplainThemselves IsReplied step IsWithinCapacity state writer readers
    → (p : ℕ) → IsLegalRun (state 0) (merged writer readers p) (state p)

-- in which the state at an earlier place is the one there
abbrev pub MergedIsSeen : Type 0
MergedIsSeen = (writer : ℕ → Option (Entry Done)) (readers : ℕ → List (Entry Done)) (state : ℕ → State)
    → AreOfTheirPlaces StandsBefore writer readers → ExplainThemselves IsReplied step IsWithinCapacity state writer readers
    → (t p : ℕ) → t ≤ p → IsStateAt (state 0) (merged writer readers p) t (state t)

-- a history of books has each caller's records as they stand in its book, and is the only one of these books
abbrev pub HistoryKeepsBooks : Type 0
HistoryKeepsBooks = (books : List (Book Done)) → AreBooks books → (history : List (Entry Done))
    → IsHistoryOf books history
    → ((b : Book Done) → IsIn b books → by_caller b.caller history ≡ b.records)
    × ((k : ℕ) → ((b : Book Done) → IsIn b books → b.caller ≢ k) → by_caller k history ≡ [])
    × ((other : List (Entry Done)) → IsHistoryOf books other → other ≡ history)

-- what is summed over the records of books is summed over their history
abbrev pub BooksSumToHistory : Type 0
BooksSumToHistory = (f : Entry Done → ℕ) (books : List (Book Done)) → AreBooks books → (history : List (Entry Done))
    → IsHistoryOf books history → total f history ≡ total_of_books f books

-- Worked histories of small stores: their records, their contents at the end, and what was seen by attempts that
-- were not committed.
use Rattle.std.specs.Prelude.{ℕ, true, false, List, [], ◌∷◌, length}
use Rattle.serial_terms.specs.declared.call.Call.TheVariants.{MapGet, MapPut, MapRemove, MapPutIfAbsent, Enqueue, Dequeue, QueueLen, Take, Give, Append, AppendPlaced, LogRead, LogLen, CellGet, CellPut}
use Rattle.serial_terms.specs.declared.call.Reply.TheVariants.{Nothing, Absent, Value, Flag}
use Rattle.serial_terms.specs.declared.call.Done.{Done}
use Rattle.serial_terms.specs.declared.sight.SightEnd.{SightEnd}
use Rattle.serial_terms.specs.declared.sight.SightEnd.TheVariants.{Aborted, Refused, Full, Child}
use Rattle.serial_terms.specs.declared.store.Layout.{Layout}
use Rattle.serial_terms.specs.declared.store.StoreState.{StoreState}
use Rattle.serial_terms.specs.Entries.{Entry}
use Rattle.serial_terms.specs.Histories.{IsLegalHistory}
use Rattle.serial_terms.specs.RunLayout.{layout_by}
use Rattle.serial_terms.specs.Serial.{outside, in_child}
use Rattle.serial_terms.specs.Sights.{Seen, AreSightsOf}
use Rattle.serial_terms.specs.Stores.{opening_of, state_of}

-- the history is legal from the opening to these contents, and these are sights of it
pub record IsWorked (layout : Layout) (history : List (Entry Done)) (contents : StoreState) (sights : List (Seen Done)) : Type 0 where
  pub legal : IsLegalHistory (opening_of layout) history (state_of layout contents)
  pub seen : AreSightsOf (length layout.queues) (opening_of layout) history sights

-- a record of the caller with the index at the place
abbrev pub writes : ℕ → ℕ → ℕ → List Done → Entry Done
writes caller index place dones = record { caller = caller; index = index; place = place; writer = true; dones = dones }

abbrev pub reads : ℕ → ℕ → ℕ → List Done → Entry Done
reads caller index place dones = record { caller = caller; index = index; place = place; writer = false; dones = dones }

-- what the caller saw at the place after so many records
abbrev pub sight : ℕ → ℕ → ℕ → SightEnd → List Done → Seen Done
sight caller after place end dones = record { caller = caller; after = after; place = place; end = end; dones = dones }

abbrev pub maps_alone : ℕ → Layout
maps_alone n = record { maps = n ∷ []; queues = []; pools = []; logs = []; cells = 0 }

abbrev pub map_and_log : Layout
map_and_log = record { maps = 16 ∷ []; queues = []; pools = []; logs = 4 ∷ []; cells = 0 }

abbrev pub pairs : List (ℕ × ℕ) → StoreState
pairs ps = record { maps = ps ∷ []; queues = []; pools = []; logs = []; cells = [] }

abbrev pub pairs_and_log : List (ℕ × ℕ) → List ℕ → StoreState
pairs_and_log ps xs = record { maps = ps ∷ []; queues = []; pools = []; logs = xs ∷ []; cells = [] }

-- a commit is refused since the key that was absent has a value now; the attempt is made again
abbrev pub RefusedCommit : Type 0
RefusedCommit = IsWorked (maps_alone 16)
    (writes 1 0 1 (outside (MapPut 0 7 70) Nothing ∷ []) ∷ writes 0 0 3 (outside (MapGet 0 7) (Value 70) ∷ outside (MapPut 0 8 80) Nothing ∷ []) ∷ [])
    (pairs ((7, 70) ∷ (8, 80) ∷ []))
    (sight 0 0 0 Refused (outside (MapGet 0 7) Absent ∷ outside (MapPut 0 8 80) Nothing ∷ []) ∷ [])

-- two readers at the place of a writer
abbrev pub ReadersAtOnePlace : Type 0
ReadersAtOnePlace = IsWorked (maps_alone 16)
    (writes 0 0 1 (outside (MapPut 0 7 70) Nothing ∷ []) ∷ writes 1 0 2 (outside (MapPut 0 8 80) Nothing ∷ []) ∷ reads 0 1 2 (outside (MapGet 0 8) (Value 80) ∷ []) ∷ reads 1 1 2 (outside (MapGet 0 7) (Value 70) ∷ []) ∷ [])
    (pairs ((7, 70) ∷ (8, 80) ∷ []))
    []

-- an item that was taken by an attempt that was given up is taken again
abbrev pub ItemTakenAgain : Type 0
ItemTakenAgain = IsWorked (record { maps = []; queues = []; pools = record { slots = 1; items = 9 ∷ [] } ∷ []; logs = []; cells = 0 })
    (writes 1 0 1 (outside (Take 0) (Value 9) ∷ []) ∷ [])
    (record { maps = []; queues = []; pools = [] ∷ []; logs = []; cells = [] })
    (sight 0 0 0 Aborted (outside (Take 0) (Value 9) ∷ []) ∷ sight 1 0 0 Aborted [] ∷ [])

-- a child is dropped and the version raised; the next child appends behind the other caller's value
abbrev pub ChildMadeAgain : Type 0
ChildMadeAgain = IsWorked map_and_log
    (writes 1 0 1 (outside (AppendPlaced 0 90) (Value 0) ∷ []) ∷ writes 0 0 2 (outside (MapGet 0 2) Absent ∷ outside (MapPut 0 1 11) Nothing ∷ in_child (AppendPlaced 0 80) (Value 1) ∷ []) ∷ [])
    (pairs_and_log ((1, 11) ∷ []) (90 ∷ 80 ∷ []))
    (sight 0 0 0 Child (outside (MapGet 0 2) Absent ∷ outside (MapPut 0 1 11) Nothing ∷ []) ∷ [])

-- three children are dropped, and the parent commits what it did itself
abbrev pub ChildrenDropped : Type 0
ChildrenDropped = IsWorked map_and_log
    (writes 0 0 1 (outside (MapPut 0 1 11) Nothing ∷ []) ∷ [])
    (pairs_and_log ((1, 11) ∷ []) [])
    (sight 0 0 0 Child (outside (MapPut 0 1 11) Nothing ∷ []) ∷ sight 0 0 0 Child (outside (MapPut 0 1 11) Nothing ∷ []) ∷ sight 0 0 0 Child (outside (MapPut 0 1 11) Nothing ∷ []) ∷ [])

-- an entry that wasn't there is there at the commit, which is refused
abbrev pub EntryCameSince : Type 0
EntryCameSince = IsWorked map_and_log
    (writes 1 0 1 (outside (Append 0 5) Nothing ∷ []) ∷ [])
    (pairs_and_log [] (5 ∷ []))
    (sight 0 0 0 Refused (outside (LogRead 0 0) Absent ∷ outside (MapPut 0 1 1) Nothing ∷ []) ∷ [])

-- the log has its values in the order of the commits, whoever appended first
abbrev pub AppendsByCommit : Type 0
AppendsByCommit = IsWorked map_and_log
    (writes 1 0 1 (outside (Append 0 20) Nothing ∷ []) ∷ writes 0 0 2 (outside (Append 0 10) Nothing ∷ []) ∷ [])
    (pairs_and_log [] (20 ∷ 10 ∷ []))
    []

-- a value that is put into a queue and taken out again in one record changes nothing; commits beyond the capacity are refused
abbrev pub QueueFull : Type 0
QueueFull = IsWorked (record { maps = []; queues = 2 ∷ []; pools = []; logs = []; cells = 0 })
    (reads 0 0 0 (outside (Enqueue 0 5) Nothing ∷ outside (Dequeue 0) (Value 5) ∷ []) ∷ writes 0 1 1 (outside (Enqueue 0 6) Nothing ∷ outside (Enqueue 0 7) Nothing ∷ []) ∷ [])
    (record { maps = []; queues = (6 ∷ 7 ∷ []) ∷ []; pools = []; logs = []; cells = [] })
    (sight 0 1 0 (Full 0 0 3) (outside (Enqueue 0 6) Nothing ∷ outside (Enqueue 0 7) Nothing ∷ outside (Enqueue 0 8) Nothing ∷ []) ∷
    sight 0 2 1 (Full 0 2 1) (outside (Enqueue 0 8) Nothing ∷ []) ∷ [])

-- a third key that found no position isn't in the record
abbrev pub TwoKeys : Type 0
TwoKeys = IsWorked (maps_alone 2) (writes 0 0 1 (outside (MapPut 0 1 10) Nothing ∷ outside (MapPut 0 2 20) Nothing ∷ []) ∷ []) (pairs ((1, 10) ∷ (2, 20) ∷ [])) []

-- each kind of call in one record
abbrev pub EachCall : Type 0
EachCall = IsWorked (record { maps = 4 ∷ []; queues = 2 ∷ []; pools = record { slots = 2; items = 9 ∷ [] } ∷ []; logs = 3 ∷ []; cells = 1 })
    (writes 0 0 1 (
    outside (MapPutIfAbsent 0 5 50) Absent ∷ outside (MapPutIfAbsent 0 5 51) (Value 50) ∷ outside (MapRemove 0 5) Nothing ∷ outside (MapGet 0 5) Absent ∷
    outside (Enqueue 0 7) Nothing ∷ outside (QueueLen 0) (Value 1) ∷
    outside (Take 0) (Value 9) ∷ outside (Give 0 8) (Flag true) ∷ outside (Give 0 6) (Flag true) ∷ outside (Give 0 4) (Flag false) ∷
    outside (Append 0 3) Nothing ∷ outside (AppendPlaced 0 4) (Value 1) ∷ outside (LogLen 0) (Value 2) ∷ outside (LogRead 0 0) (Value 3) ∷ outside (LogRead 0 2) Absent ∷
    outside (CellPut 0 77) Nothing ∷ outside (CellGet 0) (Value 77) ∷ []) ∷ [])
    (record { maps = [] ∷ []; queues = (7 ∷ []) ∷ []; pools = (6 ∷ 8 ∷ []) ∷ []; logs = (3 ∷ 4 ∷ []) ∷ []; cells = 77 ∷ [] })
    []

-- ---- two runs of one worker and of the pass after it

abbrev pub no_item : Done
no_item = outside (Dequeue 0) Absent

abbrev pub no_task : Done
no_task = outside (Take 0) Absent

-- one whole frame, in which rule 0 finds its first pattern at place 8
abbrev pub one_frame_records : List (Entry Done)
one_frame_records =
    reads 0 0 0 (no_item ∷ []) ∷
    writes 0 1 1 (outside (Take 0) (Value 0) ∷ in_child (Enqueue 0 0) Nothing ∷ []) ∷
    writes 0 2 2 (outside (Dequeue 0) (Value 0) ∷ in_child (AppendPlaced 0 8) (Value 0) ∷ []) ∷
    reads 0 3 2 (no_item ∷ []) ∷
    reads 0 4 2 (no_task ∷ []) ∷
    reads 0 5 2 (no_item ∷ []) ∷
    reads 0 6 2 (no_task ∷ []) ∷ []

-- task 0 is the last fragment, of the bytes 8 to 11, and task 1 the first, of the bytes 0 to 7; rule 0 finds its first
-- pattern at place 6
abbrev pub two_fragments_records : List (Entry Done)
two_fragments_records =
    reads 0 0 0 (no_item ∷ []) ∷
    writes 0 1 1 (outside (Take 0) (Value 0) ∷ in_child (MapGet 0 0) Absent ∷ in_child (MapPut 0 0 262156) Nothing ∷ []) ∷
    reads 0 2 1 (no_item ∷ []) ∷
    writes 0 3 2 (outside (Take 0) (Value 1) ∷ in_child (MapGet 0 0) (Value 262156) ∷ in_child (MapPut 0 0 4295753740) Nothing ∷ in_child (MapPut 1 1 0) Nothing ∷ in_child (Enqueue 0 1) Nothing ∷ []) ∷
    writes 0 4 3 (outside (Dequeue 0) (Value 1) ∷ outside (MapGet 0 0) (Value 4295753740) ∷ outside (MapRemove 0 0) Nothing ∷ outside (MapGet 1 1) (Value 0) ∷ outside (MapRemove 1 1) Nothing ∷ outside (MapGet 1 0) Absent ∷ in_child (AppendPlaced 0 6) (Value 0) ∷ []) ∷
    reads 0 5 3 (no_item ∷ []) ∷
    reads 0 6 3 (no_task ∷ []) ∷
    reads 0 7 3 (no_item ∷ []) ∷
    reads 0 8 3 (no_task ∷ []) ∷ []

-- what is left at the end: findings alone
abbrev pub found_alone : List ℕ → StoreState
found_alone values = record { maps = [] ∷ [] ∷ []; queues = [] ∷ []; pools = [] ∷ []; logs = values ∷ []; cells = 0 ∷ [] }

abbrev pub OneFrame : Type 0
OneFrame = IsWorked (layout_by 1 0 65536) one_frame_records (found_alone (8 ∷ [])) []

abbrev pub TwoFragments : Type 0
TwoFragments = IsWorked (layout_by 2 1 65536) two_fragments_records (found_alone (6 ∷ [])) []

pub record WorkedHistories : Type 0 where
  pub refused_commit : RefusedCommit
  pub readers_at_one_place : ReadersAtOnePlace
  pub item_taken_again : ItemTakenAgain
  pub child_made_again : ChildMadeAgain
  pub children_dropped : ChildrenDropped
  pub entry_came_since : EntryCameSince
  pub appends_by_commit : AppendsByCommit
  pub queue_full : QueueFull
  pub two_keys : TwoKeys
  pub each_call : EachCall
  pub one_frame : OneFrame
  pub two_fragments : TwoFragments

-- What the definitions refuse: histories, sights and calls that are wrong in one point each. The layouts of runs stand here as literals.
use Rattle.std.specs.Prelude.{◌≡◌, ℕ, ◌-◌, ◌^◌, true, false, List, [], ◌∷◌, length}
use Rattle.serial_terms.specs.declared.call.Call.{Call}
use Rattle.serial_terms.specs.declared.call.Call.TheVariants.{MapGet, MapPut, MapRemove, MapPutIfAbsent, Enqueue, Dequeue, QueueLen, Take, Give, Append, AppendPlaced, LogRead, CellGet, CellPut}
use Rattle.serial_terms.specs.declared.call.Reply.TheVariants.{Nothing, Absent, Value, Flag}
use Rattle.serial_terms.specs.declared.call.Done.{Done}
use Rattle.serial_terms.specs.declared.sight.SightEnd.TheVariants.{Aborted, Full}
use Rattle.serial_terms.specs.declared.store.Layout.{Layout}
use Rattle.serial_terms.specs.Counts.{numbers_from}
use Rattle.serial_terms.specs.Entries.{Entry, Each}
use Rattle.serial_terms.specs.Histories.{IsLegalHistory}
use Rattle.serial_terms.specs.Ranges.{IsCallOf, AreCallsOf, BelowCapacity}
use Rattle.serial_terms.specs.RunLayout.{layout_by}
use Rattle.serial_terms.specs.Serial.{State, outside}
use Rattle.serial_terms.specs.Sights.{Seen, IsConsistent, AreSightsOf, IsAfterItsCallers}
use Rattle.serial_terms.specs.Stores.{opening_of}
use Rattle.serial_terms.specs.Worked.{writes, reads, sight, maps_alone, map_and_log, one_frame_records, two_fragments_records}

-- the history is legal to no end
abbrev pub IsWrong : Layout → List (Entry Done) → Type 0
IsWrong layout history = (end : State) → IsLegalHistory (opening_of layout) history end → ⊥

-- nothing has seen this of the history
abbrev pub IsUnseen : Layout → List (Entry Done) → Seen Done → Type 0
IsUnseen layout history v = IsConsistent (length layout.queues) (opening_of layout) history v → ⊥

abbrev pub one_queue : Layout
one_queue = record { maps = []; queues = 2 ∷ []; pools = []; logs = []; cells = 0 }

abbrev pub queue_and_log : Layout
queue_and_log = record { maps = []; queues = 4 ∷ []; pools = []; logs = 2 ∷ []; cells = 0 }

-- a pool of one slot, with these items
abbrev pub one_pool : List ℕ → Layout
one_pool items = record { maps = []; queues = []; pools = record { slots = 1; items = items } ∷ []; logs = []; cells = 0 }

abbrev pub put_seven : List Done
put_seven = outside (MapPut 0 7 70) Nothing ∷ []

abbrev pub put_eight : List Done
put_eight = outside (MapPut 0 8 80) Nothing ∷ []

abbrev pub three_items : List Done
three_items = outside (Enqueue 0 5) Nothing ∷ outside (Enqueue 0 6) Nothing ∷ outside (Enqueue 0 7) Nothing ∷ []

abbrev pub three_values : List Done
three_values = outside (Append 0 5) Nothing ∷ outside (Append 0 6) Nothing ∷ outside (Append 0 7) Nothing ∷ []

pub record WrongHistories : Type 0 where
  -- capacities: five values in a log of four, three in a queue of two
  pub log_over : IsWrong map_and_log (writes 0 0 1 (outside (Append 0 1) Nothing ∷ outside (Append 0 2) Nothing ∷ outside (Append 0 3) Nothing ∷ outside (Append 0 4) Nothing ∷ outside (Append 0 5) Nothing ∷ []) ∷ [])
  pub queue_over : IsWrong one_queue (writes 0 0 1 three_items ∷ [])
  -- records: one without the writer's flag that changes the state, a writer at place 0, two writers at one place
  pub reader_writes : IsWrong (maps_alone 16) (reads 0 0 1 put_seven ∷ [])
  pub writer_at_opening : IsWrong (maps_alone 16) (writes 0 0 0 put_seven ∷ [])
  pub writers_meet : IsWrong (maps_alone 16) (writes 0 0 1 put_seven ∷ writes 1 0 1 put_eight ∷ [])
  -- indices: one passed over, one that doesn't begin at 0
  pub index_missing : IsWrong (maps_alone 16) (writes 0 0 1 put_seven ∷ writes 0 2 2 put_eight ∷ [])
  pub index_from_one : IsWrong (maps_alone 16) (writes 0 1 1 put_seven ∷ [])
  -- order: a place that falls, a reader before the writer of its place, callers the wrong way round
  pub place_falls : IsWrong (maps_alone 16) (writes 0 0 2 put_seven ∷ writes 1 0 1 put_eight ∷ [])
  pub reader_first : IsWrong (maps_alone 16) (reads 0 0 1 [] ∷ writes 1 0 1 put_seven ∷ [])
  pub callers_fall : IsWrong (maps_alone 16) (reads 1 0 0 [] ∷ reads 0 0 0 [] ∷ [])
  -- maps: a key that is there written over, a key that was removed found
  pub written_over : IsWrong (maps_alone 16) (writes 0 0 1 (outside (MapPut 0 5 50) Nothing ∷ outside (MapPutIfAbsent 0 5 51) (Value 50) ∷ outside (MapGet 0 5) (Value 51) ∷ []) ∷ [])
  pub found_again : IsWrong (maps_alone 16) (writes 0 0 1 (outside (MapPut 0 5 50) Nothing ∷ outside (MapRemove 0 5) Nothing ∷ outside (MapGet 0 5) (Value 50) ∷ []) ∷ [])
  -- queues: the last of two given first, an item that was given left
  pub last_first : IsWrong one_queue (writes 0 0 1 (outside (Enqueue 0 5) Nothing ∷ outside (Enqueue 0 6) Nothing ∷ outside (Dequeue 0) (Value 6) ∷ []) ∷ [])
  pub item_left : IsWrong one_queue (writes 0 0 1 (outside (Enqueue 0 5) Nothing ∷ outside (Dequeue 0) (Value 5) ∷ outside (QueueLen 0) (Value 1) ∷ []) ∷ [])
  -- pools: nothing taken where an item is, an item taken where none is, another one; one given too many, one refused where a slot is free
  pub item_missed : IsWrong (one_pool (9 ∷ [])) (reads 0 0 0 (outside (Take 0) Absent ∷ []) ∷ [])
  pub item_made : IsWrong (one_pool []) (writes 0 0 1 (outside (Take 0) (Value 9) ∷ []) ∷ [])
  pub other_item : IsWrong (one_pool (9 ∷ [])) (writes 0 0 1 (outside (Take 0) (Value 8) ∷ []) ∷ [])
  pub pool_over : IsWrong (one_pool (9 ∷ [])) (writes 0 0 1 (outside (Give 0 8) (Flag true) ∷ []) ∷ [])
  pub slot_missed : IsWrong (one_pool []) (reads 0 0 0 (outside (Give 0 8) (Flag false) ∷ []) ∷ [])
  -- logs: a value put in front, the length after told in place of the length before
  pub put_in_front : IsWrong map_and_log (writes 0 0 1 (outside (Append 0 3) Nothing ∷ outside (Append 0 4) Nothing ∷ outside (LogRead 0 0) (Value 4) ∷ []) ∷ [])
  pub place_after : IsWrong map_and_log (writes 0 0 1 (outside (AppendPlaced 0 3) (Value 1) ∷ []) ∷ [])

pub record WrongSights : Type 0 where
  -- a commit refused at its capacity, with another length, with a log's own number where a queue stands before it
  pub full_at_capacity : IsUnseen one_queue [] (sight 0 0 0 (Full 0 0 2) (outside (Enqueue 0 5) Nothing ∷ outside (Enqueue 0 6) Nothing ∷ []))
  pub other_length : IsUnseen one_queue [] (sight 0 0 0 (Full 0 1 3) three_items)
  pub log_by_own_number : IsUnseen queue_and_log [] (sight 0 0 0 (Full 0 0 3) three_values)
  -- a reply from a later place
  pub seen_too_early : IsUnseen (maps_alone 16) (writes 1 0 1 put_seven ∷ []) (sight 0 0 0 Aborted (outside (MapGet 0 7) (Value 70) ∷ []))
  -- more records before it than its caller has; a record before it at a later place
  pub too_many_before : IsAfterItsCallers (writes 1 0 1 put_seven ∷ []) (sight 0 1 1 Aborted []) → ⊥
  pub before_its_record : IsAfterItsCallers (writes 0 0 2 put_seven ∷ []) (sight 0 1 1 Aborted []) → ⊥
  -- a place that falls, callers the wrong way round, fewer records before a later sight
  pub place_falls : AreSightsOf 0 (opening_of (maps_alone 16)) [] (sight 0 0 1 Aborted [] ∷ sight 0 0 0 Aborted [] ∷ []) → ⊥
  pub callers_fall : AreSightsOf 0 (opening_of (maps_alone 16)) [] (sight 1 0 0 Aborted [] ∷ sight 0 0 0 Aborted [] ∷ []) → ⊥
  pub after_falls : AreSightsOf 0 (opening_of (maps_alone 16)) (writes 0 0 1 put_seven ∷ []) (sight 0 1 1 Aborted [] ∷ sight 0 0 1 Aborted [] ∷ []) → ⊥

-- what isn't a call of the layout of a run with two tasks and one group
abbrev pub IsNoCall : Call → Type 0
IsNoCall call = IsCallOf BelowCapacity (layout_by 2 1 65536) call → ⊥

pub record CallsAndLayouts : Type 0 where
  pub of_one_frame : Each (λ e. AreCallsOf BelowCapacity (layout_by 1 0 65536) e.dones) one_frame_records
  pub of_two_fragments : Each (λ e. AreCallsOf BelowCapacity (layout_by 2 1 65536) e.dones) two_fragments_records
  -- a key at its map's capacity, a structure that isn't there, values that no cell keeps
  pub key_at_capacity : IsNoCall (MapGet 0 1)
  pub third_map : IsNoCall (MapRemove 2 0)
  pub second_queue : IsNoCall (Dequeue 1)
  pub second_pool : IsNoCall (Take 1)
  pub second_log : IsNoCall (AppendPlaced 1 0)
  pub second_cell : IsNoCall (CellGet 1)
  pub value_too_great : IsNoCall (Enqueue 0 (2 ^ 64 - 1))
  pub word_too_great : IsNoCall (CellPut 0 (2 ^ 64))
  -- the layouts of runs without tasks, of one whole frame, of two fragments, and of more tasks than are given at a time
  pub of_none : layout_by 0 0 65536 ≡ record { maps = 1 ∷ 1 ∷ []; queues = 1 ∷ []; pools = record { slots = 1; items = [] } ∷ []; logs = 65536 ∷ []; cells = 1 }
  pub of_one : layout_by 1 0 7 ≡ record { maps = 1 ∷ 1 ∷ []; queues = 1 ∷ []; pools = record { slots = 1; items = 0 ∷ [] } ∷ []; logs = 7 ∷ []; cells = 1 }
  pub of_two : layout_by 3 2 7 ≡ record { maps = 2 ∷ 3 ∷ []; queues = 3 ∷ []; pools = record { slots = 3; items = 0 ∷ 1 ∷ 2 ∷ [] } ∷ []; logs = 7 ∷ []; cells = 1 }
  pub of_many : layout_by 5000 1 7 ≡ record { maps = 1 ∷ 5000 ∷ []; queues = 4096 ∷ []; pools = record { slots = 4096; items = numbers_from 0 4096 } ∷ []; logs = 7 ∷ []; cells = 1 }

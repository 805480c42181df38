-- Records that no worker commits, each wrong in one point, and what is counted of records.
use Rattle.std.specs.Prelude.{◌≡◌, true, List, [], ◌∷◌}
use Rattle.serial_terms.specs.declared.call.Call.TheVariants.{MapGet, MapPut, MapRemove, Enqueue, Dequeue, QueueLen, Take, Give, AppendPlaced, CellGet, CellPut}
use Rattle.serial_terms.specs.declared.call.Reply.TheVariants.{Nothing, Absent, Value, Flag}
use Rattle.serial_terms.specs.declared.call.Done.{Done}
use Rattle.serial_terms.specs.Serial.{outside, in_child}
use Rattle.serial_terms.specs.Worked.{one_frame_records, two_fragments_records, writes}
use Rattle.run_stages.specs.Work.{Work}
use Rattle.run_stages.specs.Allowed.{IsAllowed}
use Rattle.run_stages.specs.Batches.{frames}
use Rattle.run_stages.specs.Ends.{all_tasks_taken, all_items_taken, fills_made}
use Rattle.run_stages.specs.Opening.{layout_of}
use Rattle.run_stages.specs.Worked.{one_frame, two_fragments}

abbrev pub IsRefused : Work → List Done → Type 0
IsRefused w ds = IsAllowed w ds → ⊥

-- the fill after the opening, with these Gives
abbrev pub first_fill : List Done → List Done
first_fill gives = outside (QueueLen 0) (Value 0) ∷ outside (CellGet 0) (Value 0) ∷ outside (CellPut 0 1) Nothing ∷ gives

pub record WrongRecords : Type 0 where
  -- children: an item enqueued and a finding appended outside of any, a task taken and one given in one
  pub item_outside : IsRefused one_frame (outside (Take 0) (Value 0) ∷ outside (Enqueue 0 0) Nothing ∷ [])
  pub finding_outside : IsRefused one_frame (outside (Dequeue 0) (Value 0) ∷ outside (AppendPlaced 0 8) (Value 0) ∷ [])
  pub take_inside : IsRefused one_frame (in_child (Take 0) (Value 0) ∷ in_child (Enqueue 0 0) Nothing ∷ [])
  pub give_inside : IsRefused (frames 4097) (first_fill (in_child (Give 0 4096) (Flag true) ∷ []))
  -- fills: nothing to give, a task given twice, a batch that begins one task early
  pub empty_fill : IsRefused (frames 4096) (first_fill [])
  pub given_twice : IsRefused (frames 4098) (first_fill (outside (Give 0 4096) (Flag true) ∷ outside (Give 0 4096) (Flag true) ∷ []))
  pub begun_early : IsRefused (frames 4097) (first_fill (outside (Give 0 4095) (Flag true) ∷ []))
  -- findings: another one, one left out
  pub other_finding : IsRefused one_frame (outside (Dequeue 0) (Value 0) ∷ in_child (AppendPlaced 0 9) (Value 0) ∷ [])
  pub no_finding : IsRefused one_frame (outside (Dequeue 0) (Value 0) ∷ [])
  -- groups: queued before it is whole, a last fragment that tells no total, no link to the old head, a link left behind the walk
  pub queued_early : IsRefused two_fragments (outside (Take 0) (Value 0) ∷ in_child (MapGet 0 0) Absent ∷ in_child (MapPut 0 0 262156) Nothing ∷ in_child (Enqueue 0 1) Nothing ∷ [])
  pub no_total : IsRefused two_fragments (outside (Take 0) (Value 0) ∷ in_child (MapGet 0 0) Absent ∷ in_child (MapPut 0 0 262144) Nothing ∷ [])
  pub no_link : IsRefused two_fragments (outside (Take 0) (Value 1) ∷ in_child (MapGet 0 0) (Value 262156) ∷ in_child (MapPut 0 0 4295753740) Nothing ∷ in_child (Enqueue 0 1) Nothing ∷ [])
  pub link_left : IsRefused two_fragments (outside (Dequeue 0) (Value 1) ∷ outside (MapGet 0 0) (Value 4295753740) ∷ outside (MapRemove 0 0) Nothing ∷ outside (MapGet 1 1) (Value 0) ∷ outside (MapGet 1 0) Absent ∷ in_child (AppendPlaced 0 6) (Value 0) ∷ [])

pub record CountsAndLayouts : Type 0 where
  -- each take, each dequeue and each fill is counted
  pub frame_taken : all_tasks_taken one_frame_records ≡ 1
  pub frame_dequeued : all_items_taken one_frame_records ≡ 1
  pub fragments_taken : all_tasks_taken two_fragments_records ≡ 2
  pub group_dequeued : all_items_taken two_fragments_records ≡ 1
  pub nothing_filled : fills_made two_fragments_records ≡ 0
  pub filled_once : fills_made (writes 0 0 1 (first_fill (outside (Give 0 4096) (Flag true) ∷ [])) ∷ []) ≡ 1
  -- the layouts of no task, of one and of two
  pub of_none : layout_of (frames 0) 65536 ≡ record { maps = 1 ∷ 1 ∷ []; queues = 1 ∷ []; pools = record { slots = 1; items = [] } ∷ []; logs = 65536 ∷ []; cells = 1 }
  pub of_one : layout_of one_frame 7 ≡ record { maps = 1 ∷ 1 ∷ []; queues = 1 ∷ []; pools = record { slots = 1; items = 0 ∷ [] } ∷ []; logs = 7 ∷ []; cells = 1 }
  pub of_two : layout_of two_fragments 7 ≡ record { maps = 1 ∷ 2 ∷ []; queues = 2 ∷ []; pools = record { slots = 2; items = 0 ∷ 1 ∷ [] } ∷ []; logs = 7 ∷ []; cells = 1 }

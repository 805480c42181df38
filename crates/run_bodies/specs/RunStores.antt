-- The store of a run, as its transactions find it.
use Rattle.std.specs.Prelude.{◌≡◌, ℕ, ◌<◌, ◌≤◌, max, List, [], ◌∷◌, length, get_or}
use Rattle.capture_terms.specs.Plan.{IsPlanned}
use Rattle.run_stages.specs.FromCapture.{work_of_plan}
use Rattle.run_stages.specs.Work.{Work}
use Rattle.run_purpose.specs.declared.purpose.RunPurpose.{RunPurpose}
use Rattle.run_purpose.specs.Lawful.{IsLawfulRun, layout_for}
use Rattle.serial_terms.specs.declared.call.Done.{Done}
use Rattle.serial_terms.specs.Histories.{Runs}
use Rattle.serial_terms.specs.Serial.{State}
use Rattle.store_layout.specs.Shapes.{Shape, shape_of}
use Rattle.store_meaning.specs.declared.meaning.StoreMeaning.{StoreMeaning}
use Rattle.tx_store.specs.Stores.{StoreView}

-- what is to be done in a run
abbrev pub work_of_run : RunPurpose → Work
work_of_run run = work_of_plan run.rules.now run.bytes.now run.plan.now

-- the store was opened for this run, whose plan is that of a capture, and laid out for so many findings
pub record IsRunStore {K : Type 0} (run : RunPurpose) (store : StoreView (StoreMeaning RunPurpose K)) : Type 0 where
  pub plan : store.table.meaning.purpose.plan.now ≡ run.plan.now
  pub rules : store.table.meaning.purpose.rules.now ≡ run.rules.now
  pub bytes : store.table.meaning.purpose.bytes.now ≡ run.bytes.now
  pub planned : IsPlanned run.bytes.now run.plan.now
  pub findings : ℕ
  pub few : findings ≤ 1048576
  pub laid : store.table.meaning.plan ≡ shape_of (layout_for run.plan.now findings)

-- two maps, whose keys are the numbers of the groups and of the tasks, and one of each other structure
pub record HasParts (run : RunPurpose) (s : Shape) : Type 0 where
  pub maps : s.maps ≡ max (length run.plan.now.groups.items) 1 ∷ max (length run.plan.now.tasks.items) 1 ∷ []
  pub queues : length s.queues ≡ 1
  pub pools : length s.pools ≡ 1
  pub logs : length s.logs ≡ 1
  pub cells : s.cells ≡ 1

-- the group and the task may be keys of the maps, and there is a queue
pub record MayAdd (s : Shape) (group task : ℕ) : Type 0 where
  pub maps : 1 < length s.maps
  pub group_key : group < get_or s.maps 0 0
  pub task_key : task < get_or s.maps 1 0
  pub queues : 0 < length s.queues

-- the calls run, with these replies, from a lawful state of the work
pub record RunsFromLawful (w : Work) (calls : List Done) : Type 0 where
  pub state : State
  pub lawful : IsLawfulRun w state
  pub now : State
  pub run : Runs state calls now

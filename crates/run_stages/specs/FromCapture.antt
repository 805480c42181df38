-- The work that the tasks of a capture's plan give under rules, and what its run finds.
use Rattle.std.specs.Prelude.{◌≡◌, ℕ, ◌+◌, ◌<◌, ◌≤◌, false, List, [], ◌∷◌, length, get_or, slice_get, Some, map, AllPairs, IsPermutation, IsSome, is_some, count_by, ◌↔◌}
use Rattle.std.specs.List.{range_with_len}
use Rattle.std.specs.Option.{option_map_or}
use Rattle.capture_terms.specs.Capture.{contents_of}
use Rattle.capture_terms.specs.Datagram.{incomplete, is_complete, members, IsDatagramAt}
use Rattle.capture_terms.specs.Plan.{IsClassifiable, IsPlan}
use Rattle.capture_terms.specs.declared.capture.Capture.{Capture}
use Rattle.capture_terms.specs.declared.plan.Group.{Group}
use Rattle.capture_terms.specs.declared.plan.Plan.{Plan}
use Rattle.capture_terms.specs.declared.plan.Task.{Task}
use Rattle.rule_terms.specs.Rule.{Rule}
use Rattle.inspection_terms.specs.Findings.{findings_in, all_findings, findings_of_capture}
use Rattle.serial_terms.specs.declared.call.Reply.TheVariants.{Value}
use Rattle.serial_terms.specs.declared.call.Done.{Done}
use Rattle.serial_terms.specs.declared.sight.SightEnd.TheVariants.{Full}
use Rattle.serial_terms.specs.declared.store.Layout.{Layout}
use Rattle.serial_terms.specs.declared.store.StoreState.{StoreState}
use Rattle.serial_terms.specs.Counts.{times}
use Rattle.serial_terms.specs.Entries.{Entry, OrderedBy}
use Rattle.serial_terms.specs.Histories.{Runs}
use Rattle.serial_terms.specs.Sights.{EndsAs}
use Rattle.serial_terms.specs.Stores.{state_of}
use Rattle.serial_terms.specs.Serial.{State, first}
use Rattle.run_stages.specs.Work.{Work, TaskFacts, IsSoundWork, IsWhole, IsMember, IsComplete, task, item_values, values_of}
use Rattle.run_stages.specs.Allowed.{IsAllowed}
use Rattle.run_stages.specs.Opening.{IsRunOfWork}
use Rattle.run_stages.specs.Stages.{IsLawful}
use Rattle.run_stages.specs.Ends.{IsFinished, AreAllDatagrams, IsIncomplete}

-- what a run has of a task
abbrev pub facts_of : Task → TaskFacts
facts_of t = record { group = t.group; start = t.start; size = t.length; last = t.last }

-- the findings in the whole datagram that is the task of a number
abbrev pub whole_values : List Rule → List ℕ → List Task → ℕ → List ℕ
whole_values rules bytes tasks number = option_map_or (λ t. findings_in rules bytes (t ∷ [])) (slice_get tasks number) []

-- the work of tasks in groups: what is to be found in a group is what is found in all its tasks together
unfoldable pub work_of : List Rule → List ℕ → List Task → List Group → Work
work_of rules bytes tasks groups = record {
  tasks = map facts_of tasks;
  groups = length groups;
  task_values = whole_values rules bytes tasks;
  group_values = λ number. findings_in rules bytes (members tasks number);
}

-- the work of a capture's plan
abbrev pub work_of_plan : List Rule → List ℕ → Plan → Work
work_of_plan rules bytes planned = work_of rules bytes planned.tasks.items planned.groups.items

-- The laws of this work, each as one statement.

-- what the work has of each task is what the task has
abbrev pub TasksHaveFacts : Type 0
TasksHaveFacts = (rules : List Rule) (bytes : List ℕ) (tasks : List Task) (groups : List Group)
    → (length (work_of rules bytes tasks groups).tasks ≡ length tasks)
    × ((work_of rules bytes tasks groups).groups ≡ length groups)
    × ((i : ℕ) (t : Task) → slice_get tasks i ≡ Some t → task (work_of rules bytes tasks groups) i ≡ facts_of t)

-- the work of a capture's plan is sound
abbrev pub PlansAreWork : Type 0
PlansAreWork = (rules : List Rule) (bytes : List ℕ) (capture : Capture) (window : ℕ) (planned : Plan)
    → IsClassifiable bytes capture → IsPlan bytes capture window planned → IsSoundWork (work_of_plan rules bytes planned)

-- it has at most 262,144 tasks, and no more groups
abbrev pub PlansAreSmall : Type 0
PlansAreSmall = (bytes : List ℕ) (capture : Capture) (window : ℕ) (planned : Plan)
    → IsClassifiable bytes capture → IsPlan bytes capture window planned
    → (length planned.tasks.items ≤ 262144) × (length planned.groups.items ≤ 262144)

-- the task of a whole datagram is asked for by its number, and has the values of the findings in the datagram
abbrev pub WholeIsDatagram : Type 0
WholeIsDatagram = (rules : List Rule) (bytes : List ℕ) (tasks : List Task) (groups : List Group)
    → (i : ℕ) → IsWhole (work_of rules bytes tasks groups) i
    → (datagram : List Task) × IsDatagramAt tasks (i ∷ []) datagram
    × ((work_of rules bytes tasks groups).task_values i ≡ findings_in rules bytes datagram)

-- the datagram of a complete group is asked for by the numbers of the group's tasks, in any order, and the group has the
-- values of the findings in it
abbrev pub GroupIsDatagram : Type 0
GroupIsDatagram = (rules : List Rule) (bytes : List ℕ) (tasks : List Task) (groups : List Group)
    → (h : ℕ) (numbers : List ℕ) → IsComplete (work_of rules bytes tasks groups) h
    → ((i : ℕ) → IsMember (work_of rules bytes tasks groups) h i → 0 < times i numbers)
    → ((i : ℕ) → 0 < times i numbers → IsMember (work_of rules bytes tasks groups) h i)
    → (datagram : List Task) × IsDatagramAt tasks numbers datagram
    × ((work_of rules bytes tasks groups).group_values h ≡ findings_in rules bytes datagram)

-- where the frames of the tasks ascend, some list has all datagrams of the work, and their values are the findings in the
-- datagrams of the tasks in order
abbrev pub DatagramsAreListed : Type 0
DatagramsAreListed = (rules : List Rule) (bytes : List ℕ) (tasks : List Task) (groups : List Group)
    → AllPairs (λ s t. s.frame < t.frame) tasks
    → (items : List ℕ) × AreAllDatagrams (work_of rules bytes tasks groups) items
    × (values_of (work_of rules bytes tasks groups) items ≡ all_findings rules bytes tasks)

-- where the frames of the tasks ascend, the values of all datagrams of the work are the findings in the datagrams of the
-- tasks, in some order
abbrev pub ValuesAreFindings : Type 0
ValuesAreFindings = (rules : List Rule) (bytes : List ℕ) (tasks : List Task) (groups : List Group)
    → AllPairs (λ s t. s.frame < t.frame) tasks
    → (items : List ℕ) → AreAllDatagrams (work_of rules bytes tasks groups) items
    → IsPermutation (values_of (work_of rules bytes tasks groups) items) (all_findings rules bytes tasks)

-- so the log of a finished lawful state of a capture's work has exactly the findings of the rules in the capture, in
-- some order
abbrev pub FinishedFindsCapture : Type 0
FinishedFindsCapture = (rules : List Rule) (bytes : List ℕ) (capture : Capture) (window : ℕ) (planned : Plan) → IsPlan bytes capture window planned
    → (s : State) → IsLawful (work_of_plan rules bytes planned) s → IsFinished (work_of_plan rules bytes planned) s
    → IsPermutation (findings_of_capture rules bytes window (contents_of capture)) (s.logs 0).items

-- the log of a lawful state never has more values than there are findings in the capture, and has room among these for
-- those of the queue's first item
abbrev pub LogIsPartOfFindings : Type 0
LogIsPartOfFindings = (rules : List Rule) (bytes : List ℕ) (capture : Capture) (window : ℕ) (planned : Plan) → IsPlan bytes capture window planned
    → (s : State) → IsLawful (work_of_plan rules bytes planned) s
    → (length (s.logs 0).items ≤ length (findings_of_capture rules bytes window (contents_of capture)))
    × ((x : ℕ) → Value x ≡ first (s.queues 0).items
    → length (s.logs 0).items + length (item_values (work_of_plan rules bytes planned) x) ≤ length (findings_of_capture rules bytes window (contents_of capture)))

-- the incomplete groups of the work are those that are counted: any list in which each stands once is as long
abbrev pub IncompleteAreCounted : Type 0
IncompleteAreCounted = (rules : List Rule) (bytes : List ℕ) (tasks : List Task) (groups : List Group)
    → ((h : ℕ) → IsIncomplete (work_of rules bytes tasks groups) h ↔ ((h < length groups) × (is_complete (members tasks h) ≡ false)))
    × ((hs : List ℕ)
    → ((h : ℕ) → IsIncomplete (work_of rules bytes tasks groups) h → times h hs ≡ 1)
    → ((h : ℕ) → 0 < times h hs → IsIncomplete (work_of rules bytes tasks groups) h)
    → length hs ≡ incomplete tasks groups)

-- so map 0 of a finished lawful state has a word for as many groups as are incomplete, and for none that isn't there
abbrev pub FinishedCountsIncomplete : Type 0
FinishedCountsIncomplete = (rules : List Rule) (bytes : List ℕ) (capture : Capture) (window : ℕ) (planned : Plan)
    → IsClassifiable bytes capture → IsPlan bytes capture window planned
    → (s : State) → IsLawful (work_of_plan rules bytes planned) s → IsFinished (work_of_plan rules bytes planned) s
    → ((h : ℕ) → IsSome (s.maps 0 h) → h < length planned.groups.items)
    × (count_by (λ h. is_some (s.maps 0 h)) (range_with_len 0 (length planned.groups.items))
    ≡ incomplete planned.tasks.items planned.groups.items)

-- where an allowed record doesn't fit, the findings in the capture are more than the log may have
abbrev pub FullLogMeansMore : Type 0
FullLogMeansMore = (rules : List Rule) (bytes : List ℕ) (capture : Capture) (window : ℕ) (planned : Plan)
    → IsClassifiable bytes capture → IsPlan bytes capture window planned
    → (s t : State) → IsLawful (work_of_plan rules bytes planned) s
    → (ds : List Done) → IsAllowed (work_of_plan rules bytes planned) ds → Runs s ds t
    → (values adding : ℕ) → EndsAs 1 t (Full 1 values adding)
    → (t.logs 0).capacity < length (findings_of_capture rules bytes window (contents_of capture))

-- and the other way round: where a run was finished, they are no more than the log may have
abbrev pub FindingsFitLog : Type 0
FindingsFitLog = (rules : List Rule) (bytes : List ℕ) (capture : Capture) (window : ℕ) (planned : Plan)
    → IsClassifiable bytes capture → IsPlan bytes capture window planned
    → (findings : ℕ) (records : List (Entry Done)) (end : State)
    → IsRunOfWork (work_of_plan rules bytes planned) findings records end → IsFinished (work_of_plan rules bytes planned) end
    → length (findings_of_capture rules bytes window (contents_of capture)) ≤ findings

-- in contents with ascending keys that stand for a finished lawful state, map 0 has as many keys as groups are incomplete
abbrev pub KeysAreIncomplete : Type 0
KeysAreIncomplete = (rules : List Rule) (bytes : List ℕ) (capture : Capture) (window : ℕ) (planned : Plan)
    → IsClassifiable bytes capture → IsPlan bytes capture window planned
    → (layout : Layout) (contents : StoreState) → OrderedBy (λ p q. p.0 < q.0) (get_or contents.maps 0 [])
    → IsLawful (work_of_plan rules bytes planned) (state_of layout contents)
    → IsFinished (work_of_plan rules bytes planned) (state_of layout contents)
    → length (get_or contents.maps 0 []) ≡ incomplete planned.tasks.items planned.groups.items

-- What an inspection by workers hands out, for a log that may have so many findings.
use Rattle.std.specs.Prelude.{◌≡◌, ℕ, ◌/◌, ◌%◌, ◌^◌, ◌<◌, ◌≤◌, List, [], length, get_or, All, IsPermutation}
use Rattle.std.specs.List.Sorted.{IsNonDecreasing}
use Rattle.capture_terms.specs.Datagram.{incomplete}
use Rattle.capture_terms.specs.declared.plan.Plan.{Plan}
use Rattle.inspect_workers.specs.declared.inspection.InspectEnd.{InspectEnd}
use Rattle.inspect_workers.specs.declared.inspection.InspectEnd.TheVariants.{LogFull, Memory}
use Rattle.inspection_terms.specs.Findings.{all_findings}
use Rattle.rule_terms.specs.Rule.{Rule}
use Rattle.run_purpose.specs.Finished.{IsFinishedRun}
use Rattle.run_purpose.specs.Lawful.{layout_for}
use Rattle.run_stages.specs.Allowed.{IsAllowed}
use Rattle.run_stages.specs.FromCapture.{work_of_plan}
use Rattle.serial_terms.specs.declared.call.Done.{Done}
use Rattle.serial_terms.specs.declared.store.StoreState.{StoreState}
use Rattle.serial_terms.specs.Entries.{Entry, Each}
use Rattle.serial_terms.specs.Histories.{IsLegalHistory}
use Rattle.serial_terms.specs.Stores.{opening_of, state_of}
use Rattle.store_contents.specs.Contents.{AreByKey}

-- it is the number of map 0's keys, and that is the number of the groups that are no whole datagram
pub record CountsIncomplete (plan : Plan) (contents : StoreState) (n : ℕ) : Type 0 where
  pub keys : n ≡ length (get_or contents.maps 0 [])
  pub groups : n ≡ incomplete plan.tasks.items plan.groups.items
  pub few : n ≤ length plan.groups.items

module _ (rules : List Rule) (bytes : List ℕ) (plan : Plan) (findings : ℕ) where
  -- One legal history of allowed records leads from the opening of the run's store to these contents, in which pool and queue are empty
  pub record IsRunTo (history : List (Entry Done)) (contents : StoreState) : Type 0 where
    pub legal : IsLegalHistory (opening_of (layout_for plan findings)) history (state_of (layout_for plan findings) contents)
    pub allowed : Each (λ e. IsAllowed (work_of_plan rules bytes plan) e.dones) history
    pub queue : get_or contents.queues 0 [] ≡ []
    pub pool : get_or contents.pools 0 [] ≡ []

  -- They are the log's values in ascending order, and these are the findings in the plan's datagrams: no more than the log may have, each of a
  -- rule that is there
  pub record AreFindings (contents : StoreState) (found : List ℕ) : Type 0 where
    pub of_log : IsPermutation (get_or contents.logs 0 []) found
    pub ascend : IsNonDecreasing found
    pub all : found ≡ all_findings rules bytes plan.tasks.items
    pub few : length found ≤ findings
    pub rules_there : All (λ (f : ℕ). f / 2 ^ 16 % 2 ^ 16 < length rules) found

  -- why nothing is handed out: there are more findings than the log may have, or memory was wanting
  abbrev pub IsInspectEnd : InspectEnd → Type 0
  IsInspectEnd (LogFull capacity) = (capacity ≡ findings) × (findings < length (all_findings rules bytes plan.tasks.items))
  IsInspectEnd Memory = Unit {0}

  -- what the end of a run tells
  pub record Tells (history : List (Entry Done)) (contents : StoreState) : Type 0 where
    pub run : IsRunTo history contents
    pub found : (found : List ℕ) → IsPermutation (get_or contents.logs 0 []) found → IsNonDecreasing found → AreFindings contents found
    pub incomplete : (n : ℕ) → n ≡ length (get_or contents.maps 0 []) → CountsIncomplete plan contents n

  abbrev pub FinishedRunsTell : Type 0
  FinishedRunsTell = (history : List (Entry Done)) (contents : StoreState) → IsFinishedRun rules bytes plan findings history contents
      → AreByKey (get_or contents.maps 0 []) → Tells history contents

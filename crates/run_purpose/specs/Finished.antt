-- What the history of a finished run says of the capture.
use Rattle.std.specs.Prelude.{◌≡◌, ℕ, ◌+◌, ◌*◌, ◌<◌, ◌≤◌, IsTrue, ◌⊎◌, List, [], ◌∷◌, length, get_or, IsPermutation}
use Rattle.capture_terms.specs.Capture.{contents_of}
use Rattle.capture_terms.specs.Datagram.{incomplete}
use Rattle.capture_terms.specs.Plan.{IsClassifiable, IsPlan}
use Rattle.capture_terms.specs.declared.capture.Capture.{Capture}
use Rattle.capture_terms.specs.declared.plan.Plan.{Plan}
use Rattle.inspection_terms.specs.Findings.{findings_of_capture}
use Rattle.rule_terms.specs.Rule.{Rule}
use Rattle.serial_terms.specs.declared.call.Done.{Done}
use Rattle.serial_terms.specs.declared.store.StoreState.{StoreState}
use Rattle.serial_terms.specs.Entries.{Entry, Each, IsIn, OrderedBy}
use Rattle.serial_terms.specs.Histories.{IsLegalHistory}
use Rattle.serial_terms.specs.Stores.{opening_of, state_of}
use Rattle.serial_terms.specs.Worked.{no_item, no_task}
use Rattle.run_stages.specs.Allowed.{IsAllowed}
use Rattle.run_stages.specs.Ends.{fills_made}
use Rattle.run_stages.specs.FromCapture.{work_of_plan}
use Rattle.run_purpose.specs.Lawful.{layout_for}

-- it found that the queue gives nothing, or the pool, and did nothing else
abbrev pub FoundNothing : List Done → Type 0
FoundNothing dones = (dones ≡ no_item ∷ []) ⊎ (dones ≡ no_task ∷ [])

-- the record is one of the history, of this call alone, and no writer's place is above it but of those that found nothing, too
pub record IsLastReply (history : List (Entry Done)) (reply : Done) (e : Entry Done) : Type 0 where
  pub there : IsIn e history
  pub alone : e.dones ≡ reply ∷ []
  pub last : Each (λ x. IsTrue x.writer → (x.place ≤ e.place) ⊎ FoundNothing x.dones) history

-- The history of a run that left nothing to do: it is a legal one of allowed records, the queue and the pool were found empty
-- at its end, and after its fills every task was given
pub record IsFinishedRun (rules : List Rule) (bytes : List ℕ) (plan : Plan) (findings : ℕ) (history : List (Entry Done)) (contents : StoreState) : Type 0 where
  pub legal : IsLegalHistory (opening_of (layout_for plan findings)) history (state_of (layout_for plan findings) contents)
  pub allowed : Each (λ e. IsAllowed (work_of_plan rules bytes plan) e.dones) history
  pub item : Entry Done
  pub none_queued : IsLastReply history no_item item
  pub task : Entry Done
  pub none_pooled : IsLastReply history no_task task
  pub given : length plan.tasks.items ≤ 4096 * (fills_made history + 1)

-- Of the capture: the log has its findings in some order, which are no more than the log may have; queue and pool are empty;
-- and map 0 has as many keys as groups are incomplete
pub record FindsAll (rules : List Rule) (bytes : List ℕ) (capture : Capture) (window : ℕ) (plan : Plan) (findings : ℕ) (contents : StoreState) : Type 0 where
  pub found : IsPermutation (findings_of_capture rules bytes window (contents_of capture)) (get_or contents.logs 0 [])
  pub few : length (findings_of_capture rules bytes window (contents_of capture)) ≤ findings
  pub queue : get_or contents.queues 0 [] ≡ []
  pub pool : get_or contents.pools 0 [] ≡ []
  pub keys : OrderedBy (λ p q. p.0 < q.0) (get_or contents.maps 0 []) → length (get_or contents.maps 0 []) ≡ incomplete plan.tasks.items plan.groups.items

abbrev pub FinishedRunsFindAll : Type 0
FinishedRunsFindAll = (rules : List Rule) (bytes : List ℕ) (capture : Capture) (window : ℕ) (plan : Plan) → IsClassifiable bytes capture → IsPlan bytes capture window plan
    → (findings : ℕ) (history : List (Entry Done)) (contents : StoreState) → IsFinishedRun rules bytes plan findings history contents
    → FindsAll rules bytes capture window plan findings contents

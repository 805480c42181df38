-- The states that a run finds lawful, and the one that its store opens with.
use Rattle.std.specs.Prelude.{ℕ, ◌<◌, ◌≤◌, List, length}
use Rattle.capture_terms.specs.Plan.{IsPlanned}
use Rattle.capture_terms.specs.declared.plan.Plan.{Plan}
use Rattle.rule_terms.specs.Rule.{Rule}
use Rattle.serial_terms.specs.declared.call.Done.{Done}
use Rattle.serial_terms.specs.declared.store.Layout.{Layout}
use Rattle.serial_terms.specs.Histories.{Runs}
use Rattle.serial_terms.specs.RunLayout.{layout_by}
use Rattle.serial_terms.specs.Serial.{State}
use Rattle.serial_terms.specs.Stores.{opening_of}
use Rattle.run_stages.specs.Allowed.{IsAllowed}
use Rattle.run_stages.specs.FromCapture.{work_of_plan}
use Rattle.run_stages.specs.Laws.{AllowedKeepsLawful}
use Rattle.run_stages.specs.Stages.{IsLawful}
use Rattle.run_stages.specs.Work.{Work, IsSoundWork}
use Rattle.store_layout.specs.Shapes.{IsLayout, shape_of, cells_of, most_cells}

-- A lawful state of sound work. The law of the run stands beside it: the purpose is told it by the opening
pub record IsLawfulRun (w : Work) (s : State) : Type 0 where
  pub law : AllowedKeepsLawful
  pub sound : IsSoundWork w
  pub lawful : IsLawful w s

-- an allowed record leaves a lawful state lawful
pub ends_lawful : (w : Work) (dones : List Done) (s t : State) → IsLawfulRun w s → IsAllowed w dones → Runs s dones t → IsLawfulRun w t
ends_lawful w dones s t l allowed runs = record {
  law = l.law;
  sound = l.sound;
  lawful = l.law w l.sound dones allowed s t l.lawful runs;
}

-- how many tasks and groups the plan of a capture may have
pub record IsSmall (plan : Plan) : Type 0 where
  pub tasks : length plan.tasks.items ≤ 262144
  pub groups : length plan.groups.items ≤ 262144

-- how the store of a run over a plan is laid out, for so many findings
abbrev pub layout_for : Plan → ℕ → Layout
layout_for plan findings = layout_by (length plan.tasks.items) (length plan.groups.items) findings

-- a store can be laid out so, and has a cell and fewer than 2^24
pub record Fits (layout : Layout) : Type 0 where
  pub fine : IsLayout layout
  pub some : 0 < cells_of (shape_of layout)
  pub few : cells_of (shape_of layout) ≤ most_cells

-- the plan of a capture is small, and the store of its run opens in a lawful state
abbrev pub RunOpensLawful : Type 0
RunOpensLawful = (rules : List Rule) (bytes : List ℕ) (plan : Plan) → IsPlanned bytes plan
    → IsSmall plan × ((findings : ℕ) → IsLawfulRun (work_of_plan rules bytes plan) (opening_of (layout_for plan findings)))

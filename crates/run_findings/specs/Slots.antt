-- The findings that were found ahead.
use Rattle.std.specs.Prelude.{◌≡◌, ℕ, ◌+◌, List, [], ◌∷◌, All, None, IfSome}
use Rattle.std.specs.Global.{Vec}
use Rattle.capture_terms.specs.declared.plan.Plan.{Plan}
use Rattle.rule_terms.specs.Rule.{Rule}
use Rattle.run_stages.specs.FromCapture.{work_of_plan}
use Rattle.serial_terms.specs.Ranges.{IsKept}
use Rattle.run_findings.specs.declared.slots.Slot.{Slot}

-- the values are those of the whole task of this number, and each can stand in a log
pub record IsFilled (rules : List Rule) (bytes : List ℕ) (plan : Plan) (number : ℕ) (values : Vec ℕ) : Type 0 where
  pub values_are : values.items ≡ (work_of_plan rules bytes plan).task_values number
  pub kept : All IsKept values.items

-- the slot is that of the task of this number, and has its values, if any
pub record IsSlotOf (rules : List Rule) (bytes : List ℕ) (plan : Plan) (number : ℕ) (slot : Slot) : Type 0 where
  pub number_is : slot.number ≡ number
  pub filled : IfSome slot.values (IsFilled rules bytes plan number)

-- slots without values, of the tasks from the number on
abbrev pub AreEmpty : ℕ → List Slot → Type 0
AreEmpty first [] = Unit {0}
AreEmpty first (s ∷ ss) = (s.number ≡ first) × (s.values ≡ None) × AreEmpty (first + 1) ss

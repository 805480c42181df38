-- The store of a capture's run opens in a lawful state.
use Rattle.std.proofs.Common.{ℕ, length, subst}
use Rattle.serial_terms.specs.RunLayout.{layout_by}
use Rattle.serial_terms.specs.Stores.{opening_of}
use Rattle.run_stages.specs.FromCapture.{work_of_plan, PlansAreWork, PlansAreSmall, TasksHaveFacts}
use Rattle.run_stages.specs.Laws.{AllowedKeepsLawful, OpeningIsLawful}
use Rattle.run_stages.specs.Stages.{IsLawful}
use Rattle.run_purpose.specs.Lawful.{RunOpensLawful}

pub opens_lawful : PlansAreWork → PlansAreSmall → TasksHaveFacts → OpeningIsLawful → AllowedKeepsLawful → RunOpensLawful
opens_lawful works smalls facts opens law rules bytes plan planned =
    let small = smalls bytes planned.capture planned.window plan planned.fine planned.is in
    let w = work_of_plan rules bytes plan in
    let f = facts rules bytes plan.tasks.items plan.groups.items in (
      record { tasks = small.0; groups = small.1 },
      λ findings. record {
        law = law;
        sound = works rules bytes planned.capture planned.window plan planned.fine planned.is;
        lawful = subst (λ (n : ℕ). IsLawful w (opening_of (layout_by n (length plan.groups.items) findings))) f.0
            (subst (λ (g : ℕ). IsLawful w (opening_of (layout_by (length w.tasks) g findings))) f.1 (opens w findings));
      },
    )

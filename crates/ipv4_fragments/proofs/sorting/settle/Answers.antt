use Rattle.std.proofs.Common.{ℕ, Option, Some, ap, sym, ◌∙◌}
use Rattle.capture_terms.specs.Plan.{task_of}
use Rattle.ipv4_fragments.proofs.sorting.settle.Goals as goal

pub returns-in_ok-push-in-Whole-clause-task : goal.returns-in_ok-push-in-Whole-clause-task
returns-in_ok-push-in-Whole-clause-task c = (Some c.make_task.result, c.in_ok-push-in-Whole.ensures.items, λ more. rw c.in-Whole.is (ap Some c.make_task.ensures))

pub returns-in_ok-push-in-Fragment-clause-task : goal.returns-in_ok-push-in-Fragment-clause-task
returns-in_ok-push-in-Fragment-clause-task c =
    let number = c.in_ok-keep-in-Fragment.ensures.number c.if-not-branch.false in
    (Some c.make_task-in-Fragment.result, c.in_ok-push-in-Fragment.ensures.items, λ more. rw c.in-Fragment.is (ap Some (c.make_task-in-Fragment.ensures ∙ ap (λ (o : Option ℕ). task_of c.args.number o c.in-Fragment.piece) (sym (number more)))))

use Rattle.std.proofs.Common.{List, [], ◌∷◌, sym, subst}
use Rattle.capture_terms.specs.declared.plan.Task.{Task}
use Rattle.run_findings.proofs.Pairs.{pair_is}
use Rattle.run_findings.specs.Datagrams.{AreAllTasks}
use Rattle.run_stages.specs.FromCapture.{work_of}
use Rattle.run_findings.proofs.tests.are_end_and_front.Goals as goal

pub returns : goal.returns
returns c = λ yes rules bytes groups. subst (λ (tasks : List Task). AreAllTasks (work_of rules bytes tasks groups) 0 (1 ∷ 0 ∷ []))
    (sym (pair_is c.args.tasks.now (c.are_two.ensures c.if-not-are_two.false) _ _)) (c.make_up.ensures yes rules bytes groups)

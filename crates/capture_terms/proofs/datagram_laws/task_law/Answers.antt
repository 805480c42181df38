use Rattle.capture_terms.proofs.PlanLaw.{tasks_inside, whole_payload, plan_ascends}
use Rattle.capture_terms.proofs.datagram_laws.task_law.Goals as goal

pub returns-clause-inside : goal.returns-clause-inside
returns-clause-inside c = λ bytes capture window plan fine is k d lt. (tasks_inside bytes capture window plan fine is k d lt).there

pub returns-clause-short : goal.returns-clause-short
returns-clause-short c = λ bytes capture window plan fine is k d lt. (tasks_inside bytes capture window plan fine is k d lt).short

pub returns-clause-ascending : goal.returns-clause-ascending
returns-clause-ascending c = plan_ascends

pub returns-clause-whole : goal.returns-clause-whole
returns-clause-whole c = λ bytes capture window plan fine is k d lt none. whole_payload bytes _ (tasks_inside bytes capture window plan fine is k d lt) none

use Rattle.capture_terms.proofs.Members.{member_each, member_only, complete_last}
use Rattle.capture_terms.proofs.PlanLaw.{member_group}
use Rattle.capture_terms.proofs.group_laws.member_law.Goals as goal

pub returns-clause-named : goal.returns-clause-named
returns-clause-named c = member_group

pub returns-clause-each : goal.returns-clause-each
returns-clause-each c = member_each

pub returns-clause-only : goal.returns-clause-only
returns-clause-only c = member_only

pub returns-clause-complete : goal.returns-clause-complete
returns-clause-complete c = complete_last

use Rattle.run_bodies.proofs.Allowing.{ran}
use Rattle.run_bodies.proofs.matching.MatchingBodyRunPurpose.body.Goals as goal

pub returns-in-Ok-clause-same : goal.returns-in-Ok-clause-same
returns-in-Ok-clause-same g c = c.in-Ok.ensures.tried.does.same

pub returns-in-Ok-clause-ok : goal.returns-in-Ok-clause-ok
returns-in-Ok-clause-ok g c = ran c.args.self.now.run.now c.args.tx.now c.match_next.new.tx c.in-Ok.taken c.requires.can_run.0 c.requires.fresh c.in-Ok.ensures.tried

pub returns-in-Err-clause-same : goal.returns-in-Err-clause-same
returns-in-Err-clause-same g c = c.in-Err.ensures.stopped.same

pub returns-in-Err-clause-stopped : goal.returns-in-Err-clause-stopped
returns-in-Err-clause-stopped g c = c.in-Err.ensures.stopped.cause

pub returns-in-Err-clause-full : goal.returns-in-Err-clause-full
returns-in-Err-clause-full g c = c.in-Err.ensures.stopped.full

use Rattle.tx_core.proofs.Calling.{looks_observed, looks_stopped}
use Rattle.tx_core.proofs.tx.Tx.read.Goals as goal

pub returns-in-Ok-clause-looks : goal.returns-in-Ok-clause-looks
returns-in-Ok-clause-looks g c = looks_observed _ _ _ _ _ c.in-Ok.ensures.observes c.in-Ok.ensures.looks c.in-Ok.ensures.steps

pub returns-in-Err-clause-looks : goal.returns-in-Err-clause-looks
returns-in-Err-clause-looks g c =
    let e = c.in-Err.ensures in
    looks_stopped _ c.args.self.now c.observe.new.self _ _ _ e.same e.looks e.steps e.cause.0 e.cause.1 e.sole c.halt.ensures

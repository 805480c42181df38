use Rattle.store_history.proofs.laws.one_history_law.Goals as goal

pub returns : goal.returns
returns g c = c.fitting_history_law.ensures c.args._pass.now c.legal_law.ensures (c.moments_law.ensures c.legal_law.ensures.legal)

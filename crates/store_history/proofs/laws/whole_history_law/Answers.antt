use Rattle.store_history.proofs.laws.whole_history_law.Goals as goal

pub returns : goal.returns
returns g c = c.fitting_whole_law.ensures c.args._pass.now c.legal_law.ensures (c.moments_law.ensures c.legal_law.ensures.legal)

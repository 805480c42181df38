use Rattle.cell_table.proofs.Idle.{loads_leave}
use Rattle.cell_table.proofs.tests.words.Goals as goal

pub returns-clause-idle : goal.returns-clause-idle
returns-clause-idle c = (loads_leave c.args.pass.now _ _ 0 _ _ c.look_lock-lock.ensures.view c.look_value.ensures.view).0 c.requires.idle

pub returns-clause-same : goal.returns-clause-same
returns-clause-same c = (loads_leave c.args.pass.now _ _ 0 _ _ c.look_lock-lock.ensures.view c.look_value.ensures.view).1

use Rattle.std.proofs.Common.{ap}
use Rattle.attempt_lists.specs.Cells.{IsAscending}
use Rattle.tx_core.specs.Tx.{Attempt}
use Rattle.tx_core.specs.Words.{after_put, length_after}
use Rattle.tx_core.proofs.Parts.{known_word, hold_first}
use Rattle.attempt_lists.specs.Laid.{ascending_laid_over}
use Rattle.tx_core.proofs.tx.Tx.laid_over_law.Goals as goal

pub returns-clause-shows : goal.returns-clause-shows
returns-clause-shows g c cell x known cells all lt =
    let ascending : IsAscending c.args.self.now.writes = rw (← (ap (λ (a : Attempt _ _). a.writes) c.self.view_is)) (ascending_laid_over c.self.inside.writes.parent c.self.inside.writes.child c.ascending_law.ensures.parent) in
    known_word cells c.args.self.now.writes c.args.self.now.observations cell x ascending known all lt

pub returns-clause-put : goal.returns-clause-put
returns-clause-put g c cells cell x =
    let ascending : IsAscending c.args.self.now.writes = rw (← (ap (λ (a : Attempt _ _). a.writes) c.self.view_is)) (ascending_laid_over c.self.inside.writes.parent c.self.inside.writes.child c.ascending_law.ensures.parent) in
    after_put c.args.self.now.writes cells cell x ascending

pub returns-clause-sized : goal.returns-clause-sized
returns-clause-sized g c cells = length_after c.args.self.now.writes cells

pub returns-clause-earlier : goal.returns-clause-earlier
returns-clause-earlier g c cells more all = hold_first cells c.args.self.now.observations more all

pub returns-clause-ascending : goal.returns-clause-ascending
returns-clause-ascending g c = rw (← (ap (λ (a : Attempt _ _). a.writes) c.self.view_is)) (ascending_laid_over c.self.inside.writes.parent c.self.inside.writes.child c.ascending_law.ensures.parent)

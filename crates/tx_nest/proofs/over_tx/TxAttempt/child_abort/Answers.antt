use Rattle.std.proofs.Common.{◌∙◌, sym, ap}
use Rattle.tx_core.specs.Calls.{GoesBack}
use Rattle.tx_core.specs.Facts.{observes_grows}
use Rattle.tx_core.specs.Tx.{Attempt}
use Rattle.tx_nest.specs.OverTxCalls.{on_ok, if_err, at_some, restated, dropped_same, dropped_grows, dropped, raised, refused, raised_higher}
use Rattle.tx_nest.proofs.over_tx.TxAttempt.child_abort.Goals.{After-raise}
use Rattle.tx_nest.proofs.over_tx.TxAttempt.child_abort.Goals as goal

back : (g : _) (c : After-raise g) → GoesBack c.args.self.now c.back_to_mark.new.self c.requires.marked.0
back g c = at_some c.args.self.now.mark c.requires.marked.0 (λ m. GoesBack c.args.self.now c.back_to_mark.new.self m) c.requires.marked.1 c.back_to_mark.ensures

pub returns-clause-same : goal.returns-clause-same
returns-clause-same g c =
    let raise = c.raise.ensures in let loads = raise.loads in let mid = c.back_to_mark.new.self in let new = c.raise.new.self in
    dropped_same c.args.self.now mid new c.requires.marked.0 c.requires.marked.1 (back g c) (restated c.raise.result mid new raise.raised raise.stopped) raise.knows loads.0 loads.1 loads.2 c.requires.child.before_commit

pub returns-clause-grows : goal.returns-clause-grows
returns-clause-grows g c =
    let raise = c.raise.ensures in let loads = raise.loads in let mid = c.back_to_mark.new.self in let new = c.raise.new.self in
    dropped_grows c.args.self.now mid new c.requires.marked.0 c.requires.marked.1 (back g c) (restated c.raise.result mid new raise.raised raise.stopped) raise.knows loads.0 loads.1 loads.2

pub returns-clause-dropped : goal.returns-clause-dropped
returns-clause-dropped g c =
    let raise = c.raise.ensures in let loads = raise.loads in let mid = c.back_to_mark.new.self in let new = c.raise.new.self in
    dropped c.args.self.now mid new c.requires.marked.0 c.requires.marked.1 (back g c) (restated c.raise.result mid new raise.raised raise.stopped) raise.knows loads.0 loads.1 loads.2
    (raised_higher _ c.raise.result mid new raise.version raise.stopped)

pub returns-clause-ok : goal.returns-clause-ok
returns-clause-ok g c =
    let raise = c.raise.ensures in let loads = raise.loads in let mid = c.back_to_mark.new.self in let new = c.raise.new.self in
    on_ok c.raise.result (λ is version. raised c.args.self.now mid new c.requires.marked.0 c.requires.marked.1 (back g c) (restated c.raise.result mid new raise.raised raise.stopped) raise.knows loads.0 loads.1 loads.2
    (ap (λ (a : Attempt _ _). a.state) is) (version.1 ∙ sym loads.3)) raise.raised raise.version

pub returns-clause-err : goal.returns-clause-err
returns-clause-err g c =
    let raise = c.raise.ensures in let loads = raise.loads in let mid = c.back_to_mark.new.self in let new = c.raise.new.self in
    if_err c.raise.result (λ stop stopped cause. refused c.args.self.now mid new c.requires.marked.0 c.requires.marked.1 (back g c) (restated c.raise.result mid new raise.raised raise.stopped) raise.knows loads.0 loads.1 loads.2
    stop stopped.0 (ap (λ (a : Attempt _ _). a.state) stopped.1) (ap (λ (a : Attempt _ _). a.version) stopped.1) cause.0) raise.stopped raise.cause

pub returns-clause-sight : goal.returns-clause-sight
returns-clause-sight g c =
    let raise = c.raise.ensures in let loads = raise.loads in let mid = c.back_to_mark.new.self in let new = c.raise.new.self in
    let grows = dropped_grows c.args.self.now mid new c.requires.marked.0 c.requires.marked.1 (back g c) (restated c.raise.result mid new raise.raised raise.stopped) raise.knows loads.0 loads.1 loads.2 in
    λ i lt. observes_grows _ _ _ _ _ grows (c.vouched_law.ensures.stands i lt (c.vouched_law.ensures.early c.requires.child.before_commit i lt))

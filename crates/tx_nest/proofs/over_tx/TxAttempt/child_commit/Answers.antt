use Rattle.std.proofs.Common.{ap}
use Rattle.tx_core.specs.Tx.{Attempt}
use Rattle.tx_nest.specs.OverTxCalls.{grows_of_pass}
use Rattle.tx_nest.proofs.over_tx.TxAttempt.child_commit.Goals as goal

pub returns-clause-grows : goal.returns-clause-grows
returns-clause-grows g c =
    let is = c.unmark.ensures in
    grows_of_pass c.args.self.now c.unmark.new.self (ap (λ (a : Attempt _ _). a.pass) is)

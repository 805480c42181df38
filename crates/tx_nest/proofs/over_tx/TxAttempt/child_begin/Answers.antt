use Rattle.std.proofs.Common.{ap}
use Rattle.tx_core.specs.Tx.{Attempt}
use Rattle.tx_nest.specs.OverTxCalls.{grows_of_pass, opened}
use Rattle.tx_nest.proofs.over_tx.TxAttempt.child_begin.Goals as goal

pub returns-clause-opened : goal.returns-clause-opened
returns-clause-opened g c = opened c.args.self.now c.mark.new.self c.mark.ensures.marks c.mark.ensures.waiting c.vouched_law.ensures.sized

pub returns-clause-grows : goal.returns-clause-grows
returns-clause-grows g c =
    let is = c.mark.ensures.marks in
    grows_of_pass c.args.self.now c.mark.new.self (ap (λ (a : Attempt _ _). a.pass) is)

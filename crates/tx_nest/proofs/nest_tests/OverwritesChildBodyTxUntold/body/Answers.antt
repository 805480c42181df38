use Rattle.std.proofs.Common.{◌≡◌, ap}
use Rattle.cell_table.specs.Pass.{PassState}
use Rattle.tx_nest.specs.OverTxLaws.{grows_all}
use Rattle.tx_nest.proofs.nest_tests.OverwritesChildBodyTxUntold.body.Goals as goal

pub returns-clause-grows : goal.returns-clause-grows
returns-clause-grows c =
    let same : c.write.new.self.pass.view ≡ c.args.tx.now.pass.view = ap (λ (s : PassState _ _). s.view) c.write.ensures.pass in
    rw same (grows_all c.args.tx.now.pass.view)

use Rattle.std.proofs.Common.{subst}
use Rattle.cell_table.specs.Cells.{AllHold}
use Rattle.transfer_example.proofs.transfer.balance.Goals as goal

pub returns-clause-earlier : goal.returns-clause-earlier
returns-clause-earlier c cells holds =
    let touched = c.get.ensures.looks.does.touches.observed in
    c.laid_over_law.ensures.earlier cells touched.0 (subst (AllHold cells) touched.1 holds)

use Rattle.std.proofs.Common.{arith, ap, length, ◌∙◌, sym}
use Rattle.cell_table.specs.Pass.{PassState, TableState}
use Rattle.cell_table.proofs.Ledgers.{noted_length}
use Rattle.cell_table.proofs.Sole.{sole_eq}
use Rattle.cell_table.proofs.pass.Pass.is_sole.Goals as goal

pub returns : goal.returns
returns g c = sole_eq c.len.result c.table.inside.callers (length c.args.self.now.books) c.args.self.now.view.total
    (let a = ap (λ (z : PassState g.row.M.Denot g.row.M-Done.Denot). length z.books) c.self.view_is in let b = noted_length c.self.inside.ledgers.items in let l = c.len.ensures in let k = c.self.inside.ledgers.ok in omega arith)
    (ap (λ (z : TableState g.row.M.Denot). z.callers) c.table.view_is ∙ sym c.requires.3)

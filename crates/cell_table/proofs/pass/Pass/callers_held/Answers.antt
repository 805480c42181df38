use Rattle.std.proofs.Common.{arith, ap, length}
use Rattle.cell_table.specs.Pass.{PassState}
use Rattle.cell_table.proofs.Ledgers.{noted_length}
use Rattle.cell_table.proofs.Sole.{callers_few}
use Rattle.cell_table.proofs.pass.Pass.callers_held.Goals as goal

pub overflow_cast-result : goal.overflow_cast-result
overflow_cast-result g c = let few = callers_few g.M.Meaning.lawful g.M.Meaning.explains _ c.self.invariant.0 in let a = few.0 in let b = noted_length c.self.inside.ledgers.items in let l = c.len.ensures in let k = c.self.inside.ledgers.ok in omega arith

pub returns-clause-count : goal.returns-clause-count
returns-clause-count g c = let a = ap (λ (z : PassState g.row.M.Denot g.row.M-Done.Denot). length z.books) c.self.view_is in let b = noted_length c.self.inside.ledgers.items in let l = c.len.ensures in let k = c.self.inside.ledgers.ok in omega arith

use Rattle.std.proofs.Common.{arith, ap, length, ◌∙◌, [], get_or}
use Rattle.cell_table.specs.Pass.{PassState}
use Rattle.cell_table.specs.Seats.{noted_all}
use Rattle.cell_table.proofs.Ledgers.{noted_length, noted_at}
use Rattle.cell_table.proofs.pass.Pass.entries.Goals as goal

pub index-ledger-requires : goal.index-ledger-requires
index-ledger-requires g c = let a = ap (λ (z : PassState g.row.M.Denot g.row.M-Done.Denot). length z.books) c.self.view_is in let b = noted_length c.self.inside.ledgers.items in let l = c.requires in let k = c.self.inside.ledgers.ok in omega arith

pub returns : goal.returns
returns g c = ap noted_all c.as_slice.ensures.value ∙ (noted_at c.self.inside.ledgers.items c.args.held c.index-ledger.result.now (record { caller = 0; entries = [] }) (let a = ap (λ (z : PassState g.row.M.Denot g.row.M-Done.Denot). length z.books) c.self.view_is in let b = noted_length c.self.inside.ledgers.items in let l = c.requires in omega arith) c.index-ledger.ensures
    ∙ ap (λ (z : PassState g.row.M.Denot g.row.M-Done.Denot). (get_or z.books c.args.held (record { caller = 0; entries = [] })).entries) c.self.view_is)

use Rattle.cell_table.proofs.Sole.{alone}
use Rattle.cell_table.proofs.pass.Pass.alone_law.Goals as goal

pub returns : goal.returns
returns g c = alone g.M.Meaning.lawful g.M.Meaning.explains _ c.legal_law.ensures

use Rattle.cell_table.proofs.Laws.{moments}
use Rattle.cell_table.proofs.pass.Pass.moments_law.Goals as goal

pub returns : goal.returns
returns g c = moments g.M.Meaning.lawful g.M.Meaning.explains g.M.Meaning.keeps_lawful _

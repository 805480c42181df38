use Rattle.cell_table.proofs.Laws.{observations_agree}
use Rattle.cell_table.proofs.pass.Pass.agrees_law.Goals as goal

pub returns : goal.returns
returns g c = observations_agree g.M.Meaning.lawful g.M.Meaning.explains _ c.legal_law.ensures.legal

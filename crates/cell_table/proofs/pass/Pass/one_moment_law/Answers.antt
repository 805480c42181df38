use Rattle.cell_table.proofs.Laws.{vouched}
use Rattle.cell_table.proofs.pass.Pass.one_moment_law.Goals as goal

pub returns : goal.returns
returns g c = λ m is place. vouched g.M.Meaning.lawful g.M.Meaning.explains g.M.Meaning.keeps_lawful _ c.legal_law.ensures.legal m is place

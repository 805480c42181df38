use Rattle.run_stages.proofs.Opens.{opening_lawful}
use Rattle.run_stages.proofs.laws.opening_is_lawful_law.Goals as goal

pub returns : goal.returns
returns c = opening_lawful

use Rattle.store_meaning.proofs.States.{nothing_waits_behind}
use Rattle.store_meaning.proofs.laws.nothing_waits_behind_law.Goals as goal

pub returns : goal.returns
returns c = nothing_waits_behind

use Rattle.serial_terms.proofs.Pools.{counts}
use Rattle.serial_terms.proofs.laws.pools_are_counts.Goals as goal

pub returns : goal.returns
returns c = counts

use Rattle.std.proofs.Common.{rules}
use Rattle.store_contents.proofs.Pairs.{more_pairs}
use Rattle.store_contents.proofs.maps.gather.Goals as goal

pub loop-position-preserved : goal.loop-position-preserved
loop-position-preserved c = (search (rules, more_pairs), search rules, search rules)

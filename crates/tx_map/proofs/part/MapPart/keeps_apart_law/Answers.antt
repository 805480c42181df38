use Rattle.tx_map.proofs.Apart.{formed-after, map_of-after}
use Rattle.tx_map.proofs.part.MapPart.keeps_apart_law.Goals as goal

pub returns-clause-formed : goal.returns-clause-formed
returns-clause-formed c = formed-after c.args.self.now

pub returns-clause-same : goal.returns-clause-same
returns-clause-same c = map_of-after c.args.self.now
